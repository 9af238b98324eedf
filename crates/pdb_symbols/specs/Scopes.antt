-- Which kinds start a scope, and which end one.
use Rattle.std.specs.Prelude.{ℕ, Bool, [], ◌∷◌, nat_lt, if◌then◌else◌}
use Rattle.pdb_symbols.specs.Data.{Data}
use Rattle.pdb_symbols.specs.Data.Data.{ScopeEnd, Procedure, InlineSite, InlineSiteEnd, ProcedureEnd, Block, Thunk, SeparatedCode}
use Rattle.pdb_symbols.specs.Kinds.{is_in}

abbrev pub older_starts : ℕ → Bool
older_starts kind = is_in (0x0104 ∷ 0x0105 ∷ 0x0106 ∷ 0x0107 ∷ 0x0108 ∷ 0x0206 ∷ 0x0207 ∷ 0x0208 ∷ 0x100a ∷ 0x100b ∷ 0x1010 ∷ 0x1011 ∷ 0x1015 ∷ 0x1016 ∷ 0x101a ∷ 0x101b ∷ []) kind

abbrev pub newer_starts : ℕ → Bool
newer_starts kind = is_in (0x1102 ∷ 0x1103 ∷ 0x1104 ∷ 0x110f ∷ 0x1110 ∷ 0x1114 ∷ 0x1115 ∷ 0x1118 ∷ 0x1119 ∷ 0x112a ∷ 0x112b ∷ 0x1132 ∷ 0x1146 ∷ 0x1147 ∷ 0x1148 ∷ 0x1149 ∷ 0x114a ∷ 0x114b ∷ 0x114d ∷ 0x1155 ∷ 0x1156 ∷ 0x115d ∷ []) kind

-- a record of the kind starts a scope
abbrev pub starts_of : ℕ → Bool
starts_of kind = if nat_lt kind 0x1100 then older_starts kind else newer_starts kind

-- a record of the kind ends a scope
abbrev pub ends_of : ℕ → Bool
ends_of kind = is_in (0x0006 ∷ 0x114e ∷ 0x114f ∷ []) kind

-- what a record says starts a scope, or ends one
abbrev pub StartsScope : Data → Type 0
StartsScope (Procedure s) = Unit {0}
StartsScope (Block parent end len offset name) = Unit {0}
StartsScope (Thunk s) = Unit {0}
StartsScope (SeparatedCode s) = Unit {0}
StartsScope (InlineSite s) = Unit {0}
StartsScope d = ⊥

abbrev pub EndsScope : Data → Type 0
EndsScope ScopeEnd = Unit {0}
EndsScope ProcedureEnd = Unit {0}
EndsScope InlineSiteEnd = Unit {0}
EndsScope d = ⊥

-- The list of modules, of which some were read.
use Rattle.std.specs.Prelude.{◌≡◌, ℕ, ◌<◌, ◌⊎◌, List, length, ◌++◌, Option, Some, None}
use Rattle.pdb_base.specs.declared.error.Error.{Error}
use Rattle.pdb_base.specs.Left.{Left, ended}
use Rattle.pdb_dbi.specs.Modules.{ModuleEntry}

-- the modules that were read, the fault behind them, and what is left
pub record Listed : Type 0 where
  pub read : List ModuleEntry
  pub fault : Option Error
  pub left : Left ModuleEntry

-- the fault that was met, or else the one that is still to come
abbrev pub first_fault : Option Error → Option Error → Option Error
first_fault (Some e) later = Some e
first_fault None later = later

-- the whole list
abbrev pub listed : Listed → Left ModuleEntry
listed l = record { items = l.read ++ l.left.items; fault = first_fault l.fault l.left.fault }

-- the module with this place was read, or nothing is left
abbrev pub HasRead : ℕ → Listed → Type 0
HasRead k l = (k < length l.read) ⊎ (l.left ≡ ended)

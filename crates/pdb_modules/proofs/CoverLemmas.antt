-- Which places a line record covers.
use Rattle.std.proofs.Common.{◌≡◌, ℕ, ◌+◌, ◌<◌, ◌≤◌, Option, Some, None}
use Rattle.std.specs.Bool.{Decides}
use Rattle.std.specs.Option.{IsSomeAnd}
use Rattle.std.proofs.lemmas.Bool.{leb-true, le-leb}
use Rattle.std.proofs.lemmas.Bool.Decides.{Decides-eqb, Decides-ltb, Decides-and, Decides-like}
use Rattle.pdb_base.specs.declared.index.PdbInternalSectionOffset.{PdbInternalSectionOffset}
use Rattle.pdb_modules.specs.declared.line_info.LineInfo.{LineInfo}
use Rattle.pdb_modules.specs.LineCover.{Covers, length_covers, line_covers}

by_length : (q p : PdbInternalSectionOffset) (n : Option ℕ) → Decides (length_covers q p n) ((p.section ≡ q.section) × ((p.offset ≤ q.offset) × IsSomeAnd n (λ k. q.offset < p.offset + k)))
by_length q p None = (λ h. absurd cc, λ h. absurd h.1.1)
by_length q p (Some n) = Decides-and _ _ (Decides-eqb p.section q.section) (Decides-and _ _ (leb-true p.offset q.offset, le-leb p.offset q.offset) (Decides-ltb q.offset (p.offset + n)))

pub covers_decides : (q : PdbInternalSectionOffset) (r : LineInfo) → Decides (line_covers q r) (Covers q r)
covers_decides q r = Decides-like _ (λ h. record { section = h.0; from = h.1.0; before = h.1.1 }) (λ c. (c.section, (c.from, c.before))) (by_length q r.offset r.length)

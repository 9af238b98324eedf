-- An entry of a list of members, as facts on places alone.
use Rattle.std.specs.Prelude.{ℕ, ◌+◌, ◌≡◌, ◌≤◌, List, length, Some}
use Rattle.pdb_base.specs.Places.{IsNumber}
use Rattle.pdb_types.specs.MemberRows.{MemberForm, FoundEntry, laid_member, member_form_of, padding_at}

-- where the parts of an entry at p end
abbrev pub parts_end : (f : MemberForm) → List ℕ → ℕ → (laid_member f).Parts → ℕ
parts_end f b p s = p + 2 + (laid_member f).layout.width 0 b (p + 2) s

-- x is the entry at p: a u16 kind, the parts of the kind's form behind it, and padding, which is there
pub record IsEntry (b : List ℕ) (p : ℕ) (x : FoundEntry) : Type 0 where
  pub kind : ℕ
  pub form : MemberForm
  pub parts : (laid_member form).Parts
  pub begins : IsNumber b p 2 kind
  pub listed : member_form_of kind ≡ Some form
  pub stand : (laid_member form).layout.Stands 0 b (p + 2) parts
  pub says : x.entry ≡ (laid_member form).says parts
  pub ends : x.end ≡ parts_end form b p parts + padding_at b (parts_end form b p parts)
  pub there : x.end ≤ length b

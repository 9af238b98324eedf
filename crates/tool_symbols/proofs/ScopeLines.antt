-- The lines of a symbol: those of a range, or those of any other.
use Rattle.std.proofs.Common.{◌≡◌, ℕ, ◌+◌, Bool, true, false, cond, List, ◌++◌, reverse, length, Option, Result, OnOk, sym, ap, ◌∙◌}
use Rattle.std.proofs.lemmas.List.{length-reverse}
use Rattle.pdb.specs.Forms.{kind_at, record_at}
use Rattle.pdb_records.specs.declared.machine.Machine.{Machine}
use Rattle.tool_fields.proofs.Results.{on_ok}
use Rattle.tool_types.specs.LineNames.{Names}
use Rattle.tool_symbols.specs.ScopeFrames.{innermost}
use Rattle.tool_symbols.specs.ScopeTexts.{scope_line, symbol_lines}
use Rattle.tool_symbols.specs.VariablePlaces.{behind_lines, is_of_ranges}
use Rattle.tool_symbols.specs.declared.scope_frames.Bases.{Bases}

module _ (names : Names) (machine : Option Machine) (around : List Bases) (variable : Option Bool) (b : List ℕ) where
  abbrev of_range : List ℕ
  of_range = behind_lines machine (innermost (reverse around)) (length (reverse around) + 1) variable b

  abbrev of_other : List ℕ
  of_other = scope_line names machine (length (reverse around)) b (record_at b)

  pub line_of_other : {A E : Type 0} (r : Result A E) (new old : List ℕ) → is_of_ranges (kind_at b) ≡ false
      → OnOk r (new ≡ old ++ scope_line names machine (length around) b (record_at b)) → OnOk r (new ≡ old ++ symbol_lines names machine (reverse around) variable b)
  line_of_other r new old h = on_ok r (λ e.
      e ∙ ap (λ (xs : List ℕ). old ++ xs) (ap (λ (n : ℕ). scope_line names machine n b (record_at b)) (sym (length-reverse around)) ∙ sym (ap (λ (t : Bool). cond t of_range of_other) h)))

  pub lines_of_range : (new old : List ℕ) → is_of_ranges (kind_at b) ≡ true
      → new ≡ old ++ behind_lines machine (innermost (reverse around)) (length around + 1) variable b → new ≡ old ++ symbol_lines names machine (reverse around) variable b
  lines_of_range new old h e =
      e ∙ ap (λ (xs : List ℕ). old ++ xs) (ap (λ (n : ℕ). behind_lines machine (innermost (reverse around)) (n + 1) variable b) (sym (length-reverse around)) ∙ sym (ap (λ (t : Bool). cond t of_range of_other) h))

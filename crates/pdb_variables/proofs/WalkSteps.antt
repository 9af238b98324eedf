-- One more record of a function.
use Rattle.std.proofs.Common.{◌≡◌, ℕ, zero, suc, ◌+◌, ◌-◌, ◌<◌, Bool, true, false, cond, List, [], ◌∷◌, ◌++◌, Option, Some, None, refl, sym, ap, ◌∙◌, append_assoc, arith}
use Rattle.std.specs.Option.{option_to_list}
use Rattle.std.proofs.lemmas.List.{append-nil}
use Rattle.pdb.specs.Forms.{kind_at}
use Rattle.pdb.specs.Inlinees.{InlineeEntry}
use Rattle.pdb.specs.PdbInternalSectionOffset.{PdbInternalSectionOffset}
use Rattle.pdb.specs.Scopes.{ends_of, starts_of}
use Rattle.pdb.specs.SymbolList.{Entry}
use Rattle.pdb_places.specs.Pieces.{Code}
use Rattle.pdb_variables.specs.Variables.{Variable}
use Rattle.pdb_variables.specs.VariableWalk.{calls_behind, innermost, one_deeper, scopes_after, scopes_behind, told_ahead, told_one, variable_one, variables_ahead, within_behind}
use Rattle.pdb_variables.specs.declared.frame_bases.Bases.{Bases}
use Rattle.pdb_variables.specs.declared.open_scopes.OpenScope.{OpenScope}

-- what is put is what the record gives, and behind it what the rest gives
put : {X : Type 0} (rows more one rest whole all : List X) → more ≡ rows ++ one → whole ≡ one ++ rest → rows ++ whole ≡ all → more ++ rest ≡ all
put {X} rows more one rest whole all e f g =
    ap (λ (l : List X). l ++ rest) e ∙ (append_assoc rows one rest ∙ (sym (ap (λ (l : List X). rows ++ l) f) ∙ g))

-- ---- what is told

module _ (within : ℕ) (s : Entry) (old new : List Entry) (rows more all : List (List ℕ)) (follows : old ≡ (s ∷ []) ++ new) (added : more ≡ rows ++ option_to_list (told_one within s)) where
  told_left : (depth : ℕ) → ends_of (kind_at s.bytes) ≡ true → told_ahead (suc depth) within (s ∷ new) ≡ option_to_list (told_one within s) ++ told_ahead depth (within - 1) new
  told_left depth e =
      ap (λ (b : Bool). option_to_list (told_one within s) ++ cond b (told_ahead depth (within - 1) new) (told_ahead (one_deeper (kind_at s.bytes) (suc depth)) (within_behind s within) new)) e

  told_other : (depth : ℕ) → ends_of (kind_at s.bytes) ≡ false → told_ahead depth within (s ∷ new) ≡ option_to_list (told_one within s) ++ told_ahead (one_deeper (kind_at s.bytes) depth) (within_behind s within) new
  told_other zero e =
      ap (λ (b : Bool). option_to_list (told_one within s) ++ cond b [] (told_ahead (one_deeper (kind_at s.bytes) 0) (within_behind s within) new)) e
  told_other (suc depth) e =
      ap (λ (b : Bool). option_to_list (told_one within s) ++ cond b (told_ahead depth (within - 1) new) (told_ahead (one_deeper (kind_at s.bytes) (suc depth)) (within_behind s within) new)) e

  -- it ends a scope in the function's
  pub told_scope_left : (depth : ℕ) → 0 < depth → ends_of (kind_at s.bytes) ≡ true → rows ++ told_ahead depth within old ≡ all → more ++ told_ahead (depth - 1) (within - 1) new ≡ all
  told_scope_left zero l e h = absurd (omega arith)
  told_scope_left (suc depth) l e h =
      let p : depth ≡ suc depth - 1 = omega arith in
      ap (λ (n : ℕ). more ++ told_ahead n (within - 1) new) (sym p)
      ∙ put rows more (option_to_list (told_one within s)) (told_ahead depth (within - 1) new) (told_ahead (suc depth) within old) all added (ap (told_ahead (suc depth) within) follows ∙ told_left depth e) h

  -- it ends none
  pub told_scope_other : (depth deeper inner : ℕ) → deeper ≡ one_deeper (kind_at s.bytes) depth → inner ≡ within_behind s within → ends_of (kind_at s.bytes) ≡ false → rows ++ told_ahead depth within old ≡ all → more ++ told_ahead deeper inner new ≡ all
  told_scope_other depth deeper inner d i e h =
      ap (λ (k : ℕ). more ++ told_ahead k inner new) d
      ∙ (ap (λ (k : ℕ). more ++ told_ahead (one_deeper (kind_at s.bytes) depth) k new) i
      ∙ put rows more (option_to_list (told_one within s)) (told_ahead (one_deeper (kind_at s.bytes) depth) (within_behind s within) new) (told_ahead depth within old) all added (ap (told_ahead depth within) follows ∙ told_other depth e) h)

pub deeper_started : (kind depth : ℕ) → starts_of kind ≡ true → depth + 1 ≡ one_deeper kind depth
deeper_started kind depth e = let m : depth + 1 ≡ suc depth = omega arith in m ∙ sym (ap (λ (b : Bool). cond b (suc depth) depth) e)

pub deeper_same : (kind depth : ℕ) → starts_of kind ≡ false → depth ≡ one_deeper kind depth
deeper_same kind depth e = sym (ap (λ (b : Bool). cond b (suc depth) depth) e)

-- ---- the variables

module _ (q : PdbInternalSectionOffset) (listed : ℕ → Option InlineeEntry) (procedure : Option Code) (bases : Bases) (told : List ℕ → Bool) where
  abbrev ahead : List OpenScope → ℕ → List Entry → List Variable
  ahead around calls ss = variables_ahead q listed procedure bases told around calls ss

  abbrev one : List OpenScope → Entry → List Entry → List Variable
  one around s ss = option_to_list (variable_one q listed procedure bases told (innermost bases around) s ss)

  -- the variables of what is left in these scopes; none where the function's own has ended
  abbrev further : Option (List OpenScope) → ℕ → List Entry → List Variable
  further None calls ss = []
  further (Some around) calls ss = ahead around calls ss

  module _ (calls : ℕ) (s : Entry) (new : List Entry) where
    abbrev behind : ℕ
    behind = calls_behind q listed procedure s calls

    abbrev after : List OpenScope → Option (List OpenScope)
    after around = scopes_after q listed procedure bases s new calls around

    split_function : (b : Bool) (next : List OpenScope) → one [] s new ++ cond b [] (ahead next behind new) ≡ one [] s new ++ further (cond b None (Some next)) behind new
    split_function true next = refl
    split_function false next = refl

    split_inner : (b : Bool) (o : OpenScope) (around next : List OpenScope) → one (o ∷ around) s new ++ cond b (ahead around behind new) (ahead next behind new) ≡ one (o ∷ around) s new ++ further (cond b (Some around) (Some next)) behind new
    split_inner true o around next = refl
    split_inner false o around next = refl

    split : (around : List OpenScope) → ahead around calls (s ∷ new) ≡ one around s new ++ further (after around) behind new
    split [] = split_function (ends_of (kind_at s.bytes)) (scopes_behind q listed procedure bases s new calls [])
    split (o ∷ around) = split_inner (ends_of (kind_at s.bytes)) o around (scopes_behind q listed procedure bases s new calls (o ∷ around))

    module _ (old : List Entry) (around : List OpenScope) (rows more all : List Variable) (follows : old ≡ (s ∷ []) ++ new) (added : more ≡ rows ++ one around s new) (so_far : rows ++ ahead around calls old ≡ all) where
      all_further : more ++ further (after around) behind new ≡ all
      all_further = put rows more (one around s new) (further (after around) behind new) (ahead around calls old) all added (ap (ahead around calls) follows ∙ split around) so_far

      -- the function's scope is still open
      pub scope_goes : (next : List OpenScope) (count : ℕ) → Some next ≡ after around → count ≡ behind → more ++ ahead next count new ≡ all
      scope_goes next count e f =
          ap (λ (n : ℕ). more ++ ahead next n new) f
          ∙ (ap (λ (o : Option (List OpenScope)). more ++ further o behind new) e ∙ all_further)

      -- it has ended
      pub scope_ended : None ≡ after around → more ≡ all
      scope_ended e = sym (append-nil more) ∙ (ap (λ (o : Option (List OpenScope)). more ++ further o behind new) e ∙ all_further)

-- What is kept while a function's records are passed tells what stands before each of them.
use Rattle.std.proofs.Common.{◌≡◌, ℕ, zero, suc, ◌-◌, ◌==◌, ◌&&◌, ◌||◌, not, Bool, true, false, cond, List, [], ◌∷◌, ◌++◌, length, Option, Some, None, refl, sym, ap, ◌∙◌, arith}
use Rattle.std.proofs.lemmas.Bool.{lt-ltb, ne_eqb}
use Rattle.std.specs.Prelude.{nat_lt, filter_map, drop}
use Rattle.std.specs.List.{cons_option}
use Rattle.std.specs.Option.{is_some, option_and_then, option_to_list}
use Rattle.pdb.specs.Forms.{kind_at}
use Rattle.pdb.specs.Inlinees.{InlineeEntry}
use Rattle.pdb.specs.PdbInternalSectionOffset.{PdbInternalSectionOffset}
use Rattle.pdb.specs.Scopes.{starts_of, ends_of}
use Rattle.pdb.specs.SymbolList.{Entry}
use Rattle.pdb_code.specs.Kept.{site_of}
use Rattle.pdb_code.specs.ModuleCode.{Call}
use Rattle.pdb_places.specs.Pieces.{Code}
use Rattle.pdb_variables.specs.VariableRecords.{bases_at, declared_at, is_separated, no_bases, told_key}
use Rattle.pdb_variables.specs.Variables.{Scope, Variable, are_entered, bases_from, bases_in, bases_or, behind_one, call_of_site, calls_among, is_direct, is_outside_sites, is_told, left_scope, opened, owner_of, told_from, told_in, variable_in, variables_among, variables_from}
use Rattle.pdb_variables.specs.VariableWalk.{bases_ahead, bases_behind, calls_behind, innermost, one_deeper, scope_in, scope_of, scopes_behind, told_ahead, told_one, variable_one, variables_ahead, within_behind, within_more}
use Rattle.pdb_variables.specs.declared.frame_bases.Bases.{Bases}
use Rattle.pdb_variables.specs.declared.open_scopes.OpenScope.{OpenScope}

abbrev kind_of : Entry → ℕ
kind_of s = kind_at s.bytes

abbrev scope : Entry → List Entry → Scope
scope s before = record { start = s; before = before }

-- ---- what is open behind one more record

module _ (before : List Entry) (s : Entry) where
  ended : opened before ≡ None → opened (s ∷ before) ≡ None
  ended e = ap (option_and_then (behind_one s before)) e

  one_left : (scopes : List Scope) → opened before ≡ Some scopes → ends_of (kind_of s) ≡ true → opened (s ∷ before) ≡ left_scope scopes
  one_left scopes e f =
      ap (option_and_then (behind_one s before)) e
      ∙ ap (λ (b : Bool). cond b (left_scope scopes) (cond (starts_of (kind_of s)) (Some (scope s before ∷ scopes)) (Some scopes))) f

  one_started : (scopes : List Scope) → opened before ≡ Some scopes → ends_of (kind_of s) ≡ false → starts_of (kind_of s) ≡ true → opened (s ∷ before) ≡ Some (scope s before ∷ scopes)
  one_started scopes e f g =
      ap (option_and_then (behind_one s before)) e
      ∙ (ap (λ (b : Bool). cond b (left_scope scopes) (cond (starts_of (kind_of s)) (Some (scope s before ∷ scopes)) (Some scopes))) f
      ∙ ap (λ (b : Bool). cond b (Some (scope s before ∷ scopes)) (Some scopes)) g)

  none_started : (scopes : List Scope) → opened before ≡ Some scopes → ends_of (kind_of s) ≡ false → starts_of (kind_of s) ≡ false → opened (s ∷ before) ≡ Some scopes
  none_started scopes e f g =
      ap (option_and_then (behind_one s before)) e
      ∙ (ap (λ (b : Bool). cond b (left_scope scopes) (cond (starts_of (kind_of s)) (Some (scope s before ∷ scopes)) (Some scopes))) f
      ∙ ap (λ (b : Bool). cond b (Some (scope s before ∷ scopes)) (Some scopes)) g)

-- ---- the frame

no_frame : (before ss : List Entry) → opened before ≡ None → bases_from before ss ≡ no_bases
no_frame before [] e = refl
no_frame before (s ∷ ss) e =
    ap (λ (o : Option (List Scope)). bases_or (cond (is_direct o) (bases_at s) None) (bases_from (s ∷ before) ss)) e
    ∙ no_frame (s ∷ before) ss (ended before s e)

module _ (before : List Entry) (s : Entry) (ss : List Entry) (rest : (later : List Entry) (scopes : List Scope) → opened later ≡ Some scopes → bases_ahead (length scopes) ss ≡ bases_from later ss) where
  bases_here : (scopes : List Scope) → opened before ≡ Some scopes → bases_or (cond (is_direct (Some scopes)) (bases_at s) None) (bases_from (s ∷ before) ss) ≡ bases_from before (s ∷ ss)
  bases_here scopes e = sym (ap (λ (o : Option (List Scope)). bases_or (cond (is_direct o) (bases_at s) None) (bases_from (s ∷ before) ss)) e)

  bases_started : (scopes : List Scope) → opened before ≡ Some scopes → ends_of (kind_of s) ≡ false → (b : Bool) → starts_of (kind_of s) ≡ b → bases_ahead (cond b (suc (length scopes)) (length scopes)) ss ≡ bases_from (s ∷ before) ss
  bases_started scopes e f true g = rest (s ∷ before) (scope s before ∷ scopes) (one_started before s scopes e f g)
  bases_started scopes e f false g = rest (s ∷ before) scopes (none_started before s scopes e f g)

  bases_in_function : opened before ≡ Some [] → (b : Bool) → ends_of (kind_of s) ≡ b → cond b no_bases (bases_ahead (one_deeper (kind_of s) 0) ss) ≡ bases_from (s ∷ before) ss
  bases_in_function e true f = sym (no_frame (s ∷ before) ss (one_left before s [] e f))
  bases_in_function e false f = bases_started [] e f (starts_of (kind_of s)) refl

  bases_inside : (t : Scope) (scopes : List Scope) → opened before ≡ Some (t ∷ scopes) → (b : Bool) → ends_of (kind_of s) ≡ b → bases_ahead (cond b (length scopes) (one_deeper (kind_of s) (suc (length scopes)))) ss ≡ bases_from (s ∷ before) ss
  bases_inside t scopes e true f = rest (s ∷ before) scopes (one_left before s (t ∷ scopes) e f)
  bases_inside t scopes e false f = bases_started (t ∷ scopes) e f (starts_of (kind_of s)) refl

  bases_step : (scopes : List Scope) → opened before ≡ Some scopes → bases_ahead (length scopes) (s ∷ ss) ≡ bases_from before (s ∷ ss)
  bases_step [] e = ap (bases_or (bases_at s)) (bases_in_function e (ends_of (kind_of s)) refl) ∙ bases_here [] e
  bases_step (t ∷ scopes) e = bases_inside t scopes e (ends_of (kind_of s)) refl ∙ bases_here (t ∷ scopes) e

bases_walk : (ss before : List Entry) (scopes : List Scope) → opened before ≡ Some scopes → bases_ahead (length scopes) ss ≡ bases_from before ss
bases_walk [] before [] e = refl
bases_walk [] before (t ∷ scopes) e = refl
bases_walk (s ∷ ss) before scopes e = bases_step before s ss (λ later ts f. bases_walk ss later ts f) scopes e

pub bases_found : (ss : List Entry) → bases_ahead 0 ss ≡ bases_from [] ss
bases_found ss = bases_walk ss [] [] refl

-- ---- what is told twice

-- how many of these scopes there are from the outermost site on
abbrev within : List Scope → ℕ
within [] = 0
within (t ∷ scopes) = within_more (is_some (site_of t.start)) (within scopes)

positive : (n : ℕ) → nat_lt 0 (suc n) ≡ true
positive n = lt-ltb 0 (suc n) (omega arith)

no_zero : (n : ℕ) → (suc n == 0) ≡ false
no_zero n = ne_eqb (suc n) 0 (λ e. absurd (omega arith))

more_suc : (site : Bool) (n : ℕ) → within_more site (suc n) ≡ suc (suc n)
more_suc site n = ap (λ (b : Bool). cond (b || site) (suc (suc n)) 0) (positive n)

more_is : (site : Bool) (n : ℕ) → (not site && (n == 0)) ≡ (within_more site n == 0)
more_is true zero = refl
more_is true (suc n) = sym (ap (λ (k : ℕ). k == 0) (more_suc true n) ∙ no_zero (suc n))
more_is false zero = refl
more_is false (suc n) = no_zero n ∙ sym (ap (λ (k : ℕ). k == 0) (more_suc false n) ∙ no_zero (suc n))

one_less : (site : Bool) (n : ℕ) → within_more site n - 1 ≡ n
one_less true zero = refl
one_less false zero = refl
one_less site (suc n) = let m : suc (suc n) - 1 ≡ suc n = omega arith in ap (λ (k : ℕ). k - 1) (more_suc site n) ∙ m

outside_is : (scopes : List Scope) → is_outside_sites scopes ≡ (within scopes == 0)
outside_is [] = refl
outside_is (t ∷ scopes) = ap (λ (b : Bool). not (is_some (site_of t.start)) && b) (outside_is scopes) ∙ more_is (is_some (site_of t.start)) (within scopes)

told_here : (before : List Entry) (s : Entry) (scopes : List Scope) → opened before ≡ Some scopes → told_one (within scopes) s ≡ told_in (opened before) s
told_here before s scopes e =
    sym (ap (λ (o : Option (List Scope)). told_in o s) e
    ∙ ap (λ (b : Bool). cond b (option_and_then told_key (declared_at s)) None) (outside_is scopes))

none_told : (before ss : List Entry) → opened before ≡ None → told_from before ss ≡ []
none_told before [] e = refl
none_told before (s ∷ ss) e =
    ap (λ (o : Option (List Scope)). option_to_list (told_in o s) ++ told_from (s ∷ before) ss) e
    ∙ none_told (s ∷ before) ss (ended before s e)

joined : {X : Type 0} {a b : Option X} {xs ys : List X} → a ≡ b → xs ≡ ys → option_to_list a ++ xs ≡ option_to_list b ++ ys
joined {X} {a} {b} {xs} {ys} e f = ap (λ (o : Option X). option_to_list o ++ xs) e ∙ ap (λ (l : List X). option_to_list b ++ l) f

module _ (before : List Entry) (s : Entry) (ss : List Entry) (rest : (later : List Entry) (scopes : List Scope) → opened later ≡ Some scopes → told_ahead (length scopes) (within scopes) ss ≡ told_from later ss) where
  told_started : (scopes : List Scope) → opened before ≡ Some scopes → ends_of (kind_of s) ≡ false → (b : Bool) → starts_of (kind_of s) ≡ b
      → told_ahead (cond b (suc (length scopes)) (length scopes)) (cond b (within_more (is_some (site_of s)) (within scopes)) (within scopes)) ss ≡ told_from (s ∷ before) ss
  told_started scopes e f true g = rest (s ∷ before) (scope s before ∷ scopes) (one_started before s scopes e f g)
  told_started scopes e f false g = rest (s ∷ before) scopes (none_started before s scopes e f g)

  told_in_function : opened before ≡ Some [] → (b : Bool) → ends_of (kind_of s) ≡ b → cond b [] (told_ahead (one_deeper (kind_of s) 0) (within_behind s 0) ss) ≡ told_from (s ∷ before) ss
  told_in_function e true f = sym (none_told (s ∷ before) ss (one_left before s [] e f))
  told_in_function e false f = told_started [] e f (starts_of (kind_of s)) refl

  told_inside : (t : Scope) (scopes : List Scope) → opened before ≡ Some (t ∷ scopes) → (b : Bool) → ends_of (kind_of s) ≡ b
      → cond b (told_ahead (length scopes) (within (t ∷ scopes) - 1) ss) (told_ahead (one_deeper (kind_of s) (suc (length scopes))) (within_behind s (within (t ∷ scopes))) ss) ≡ told_from (s ∷ before) ss
  told_inside t scopes e true f =
      ap (λ (k : ℕ). told_ahead (length scopes) k ss) (one_less (is_some (site_of t.start)) (within scopes))
      ∙ rest (s ∷ before) scopes (one_left before s (t ∷ scopes) e f)
  told_inside t scopes e false f = told_started (t ∷ scopes) e f (starts_of (kind_of s)) refl

  told_step : (scopes : List Scope) → opened before ≡ Some scopes → told_ahead (length scopes) (within scopes) (s ∷ ss) ≡ told_from before (s ∷ ss)
  told_step [] e = joined (told_here before s [] e) (told_in_function e (ends_of (kind_of s)) refl)
  told_step (t ∷ scopes) e = joined (told_here before s (t ∷ scopes) e) (told_inside t scopes e (ends_of (kind_of s)) refl)

told_walk : (ss before : List Entry) (scopes : List Scope) → opened before ≡ Some scopes → told_ahead (length scopes) (within scopes) ss ≡ told_from before ss
told_walk [] before [] e = refl
told_walk [] before (t ∷ scopes) e = refl
told_walk (s ∷ ss) before scopes e = told_step before s ss (λ later ts f. told_walk ss later ts f) scopes e

pub told_found : (ss : List Entry) → told_ahead 0 0 ss ≡ told_from [] ss
told_found ss = told_walk ss [] [] refl

-- ---- the variables

abbrev tail : List Entry → List Entry
tail [] = []
tail (x ∷ xs) = xs

-- the records from one on, and those behind it
one_further : (all : List Entry) (n : ℕ) (s : Entry) (ss : List Entry) → drop n all ≡ s ∷ ss → drop (suc n) all ≡ ss
one_further [] zero s ss e = absurd cc
one_further [] (suc n) s ss e = absurd cc
one_further (x ∷ all) zero s ss e = ap tail e
one_further (x ∷ all) (suc n) s ss e = one_further all n s ss e

module _ (q : PdbInternalSectionOffset) (listed : ℕ → Option InlineeEntry) (procedure : Option Code) (all : List Entry) where
  abbrev frame : Bases
  frame = bases_from [] all

  -- what is kept of scopes
  abbrev summary : List Scope → OpenScope
  summary scopes = record { entered = are_entered q listed procedure scopes; owner = owner_of q listed procedure scopes; bases = bases_in all scopes }

  abbrev summaries : List Scope → List OpenScope
  summaries [] = []
  summaries (t ∷ scopes) = summary (t ∷ scopes) ∷ summaries scopes

  innermost_is : (scopes : List Scope) → innermost frame (summaries scopes) ≡ summary scopes
  innermost_is [] = refl
  innermost_is (t ∷ scopes) = refl

  as_many : (scopes : List Scope) → length (summaries scopes) ≡ length scopes
  as_many [] = refl
  as_many (t ∷ scopes) = ap suc (as_many scopes)

  bases_kept : (before : List Entry) (s : Entry) (ss : List Entry) (scopes : List Scope) → drop (suc (length before)) all ≡ ss
      → bases_behind (kind_of s) (length (summaries scopes)) (bases_in all scopes) ss ≡ bases_in all (scope s before ∷ scopes)
  bases_kept before s ss scopes e =
      ap (λ (n : ℕ). bases_behind (kind_of s) n (bases_in all scopes) ss) (as_many scopes)
      ∙ ap (λ (x : Bases). cond (is_separated (kind_of s) && nat_lt (length scopes) 8) x (bases_in all scopes)) (bases_found ss ∙ sym (ap (bases_from []) e))

  one_more_scope : (before : List Entry) (s : Entry) (ss : List Entry) (scopes : List Scope) → drop (suc (length before)) all ≡ ss
      → scope_in q listed procedure s ss (length (summaries scopes)) (calls_among q listed procedure before) (innermost frame (summaries scopes)) ∷ summaries scopes ≡ summaries (scope s before ∷ scopes)
  one_more_scope before s ss scopes e =
      ap (λ (o : OpenScope). scope_in q listed procedure s ss (length (summaries scopes)) (calls_among q listed procedure before) o ∷ summaries scopes) (innermost_is scopes)
      ∙ ap (λ (x : Bases). scope_of q listed procedure s (calls_among q listed procedure before) (summary scopes) x ∷ summaries scopes) (bases_kept before s ss scopes e)

  counted_is : (o : Option Call) (cs : List Call) → cond (is_some o) (suc (length cs)) (length cs) ≡ length (cons_option o cs)
  counted_is None cs = refl
  counted_is (Some c) cs = refl

  calls_more : (before : List Entry) (s : Entry) → calls_behind q listed procedure s (calls_among q listed procedure before) ≡ calls_among q listed procedure (s ∷ before)
  calls_more before s = counted_is (call_of_site q listed procedure s) (filter_map (call_of_site q listed procedure) before)

  module _ (told : List ℕ → Bool) where
    abbrev ahead : List OpenScope → ℕ → List Entry → List Variable
    ahead around calls ss = variables_ahead q listed procedure frame told around calls ss

    abbrev from : List Entry → List Entry → List Variable
    from before ss = variables_from q listed procedure told all before ss

    variable_here : (before : List Entry) (s : Entry) (ss : List Entry) (scopes : List Scope) → opened before ≡ Some scopes
        → variable_one q listed procedure frame told (summary scopes) s ss ≡ variable_in q listed procedure told all (opened before) s ss
    variable_here before s ss scopes e = sym (ap (λ (o : Option (List Scope)). variable_in q listed procedure told all o s ss) e)

    no_variables : (before ss : List Entry) → opened before ≡ None → from before ss ≡ []
    no_variables before [] e = refl
    no_variables before (s ∷ ss) e =
        ap (λ (o : Option (List Scope)). option_to_list (variable_in q listed procedure told all o s ss) ++ from (s ∷ before) ss) e
        ∙ no_variables (s ∷ before) ss (ended before s e)

    abbrev calls : List Entry → ℕ
    calls before = calls_among q listed procedure before

    module _ (before : List Entry) (s : Entry) (ss : List Entry) (next : drop (suc (length before)) all ≡ ss)
        (rest : (later : List Entry) (scopes : List Scope) → drop (length later) all ≡ ss → opened later ≡ Some scopes → ahead (summaries scopes) (calls later) ss ≡ from later ss) where
      started : (scopes : List Scope) → opened before ≡ Some scopes → ends_of (kind_of s) ≡ false → (b : Bool) → starts_of (kind_of s) ≡ b
          → ahead (cond b (scope_in q listed procedure s ss (length (summaries scopes)) (calls before) (innermost frame (summaries scopes)) ∷ summaries scopes) (summaries scopes)) (calls (s ∷ before)) ss ≡ from (s ∷ before) ss
      started scopes e f true g =
          ap (λ (l : List OpenScope). ahead l (calls (s ∷ before)) ss) (one_more_scope before s ss scopes next)
          ∙ rest (s ∷ before) (scope s before ∷ scopes) next (one_started before s scopes e f g)
      started scopes e f false g = rest (s ∷ before) scopes next (none_started before s scopes e f g)

      behind : (scopes : List Scope) → opened before ≡ Some scopes → ends_of (kind_of s) ≡ false
          → ahead (scopes_behind q listed procedure frame s ss (calls before) (summaries scopes)) (calls_behind q listed procedure s (calls before)) ss ≡ from (s ∷ before) ss
      behind scopes e f =
          ap (λ (k : ℕ). ahead (scopes_behind q listed procedure frame s ss (calls before) (summaries scopes)) k ss) (calls_more before s)
          ∙ started scopes e f (starts_of (kind_of s)) refl

      in_function : opened before ≡ Some [] → (b : Bool) → ends_of (kind_of s) ≡ b
          → cond b [] (ahead (scopes_behind q listed procedure frame s ss (calls before) []) (calls_behind q listed procedure s (calls before)) ss) ≡ from (s ∷ before) ss
      in_function e true f = sym (no_variables (s ∷ before) ss (one_left before s [] e f))
      in_function e false f = behind [] e f

      inside : (t : Scope) (scopes : List Scope) → opened before ≡ Some (t ∷ scopes) → (b : Bool) → ends_of (kind_of s) ≡ b
          → cond b (ahead (summaries scopes) (calls_behind q listed procedure s (calls before)) ss) (ahead (scopes_behind q listed procedure frame s ss (calls before) (summaries (t ∷ scopes))) (calls_behind q listed procedure s (calls before)) ss) ≡ from (s ∷ before) ss
      inside t scopes e true f =
          ap (λ (k : ℕ). ahead (summaries scopes) k ss) (calls_more before s)
          ∙ rest (s ∷ before) scopes next (one_left before s (t ∷ scopes) e f)
      inside t scopes e false f = behind (t ∷ scopes) e f

      variables_step : (scopes : List Scope) → opened before ≡ Some scopes → ahead (summaries scopes) (calls before) (s ∷ ss) ≡ from before (s ∷ ss)
      variables_step [] e = joined (variable_here before s ss [] e) (in_function e (ends_of (kind_of s)) refl)
      variables_step (t ∷ scopes) e = joined (variable_here before s ss (t ∷ scopes) e) (inside t scopes e (ends_of (kind_of s)) refl)

    variables_walk : (ss before : List Entry) (scopes : List Scope) → drop (length before) all ≡ ss → opened before ≡ Some scopes → ahead (summaries scopes) (calls before) ss ≡ from before ss
    variables_walk [] before [] d e = refl
    variables_walk [] before (t ∷ scopes) d e = refl
    variables_walk (s ∷ ss) before scopes d e = variables_step before s ss (one_further all (length before) s ss d) (λ later ts l f. variables_walk ss later ts l f) scopes e

    pub variables_found : ahead [] 0 all ≡ from [] all
    variables_found = variables_walk all [] [] refl refl

-- all that was kept of a function's records tells the variables among them
pub all_found : (q : PdbInternalSectionOffset) (listed : ℕ → Option InlineeEntry) (procedure : Option Code) (bases : Bases) (told : List ℕ → Bool) (b t v ss : List Entry)
    → bases ≡ bases_ahead 0 b → told ≡ is_told (told_ahead 0 0 t) → b ≡ ss → t ≡ ss → v ≡ ss → variables_ahead q listed procedure bases told [] 0 v ≡ variables_among q listed procedure ss
all_found q listed procedure bases told b t v ss e f be te ve =
    let own : bases ≡ bases_from [] ss = e ∙ (ap (bases_ahead 0) be ∙ bases_found ss) in
    let again : told ≡ is_told (told_from [] ss) = f ∙ (ap (λ (l : List Entry). is_told (told_ahead 0 0 l)) te ∙ ap (λ (l : List (List ℕ)). is_told l) (told_found ss)) in
    ap (λ (x : Bases). variables_ahead q listed procedure x told [] 0 v) own
    ∙ (ap (λ (l : List Entry). variables_ahead q listed procedure (bases_from [] ss) told [] 0 l) ve
    ∙ (variables_found q listed procedure ss told
    ∙ ap (λ (x : List ℕ → Bool). variables_from q listed procedure x ss [] ss) again))

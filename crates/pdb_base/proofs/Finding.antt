-- What is found by a test.
use Rattle.std.proofs.Common.{◌≡◌, Bool, true, false, inl, inr, List, [], ◌∷◌, ◌++◌, append_assoc, map, Option, Some, None, Result, Ok, Err, refl, sym, ap, ◌∙◌}
use Rattle.std.specs.Fn.{Mut}
use Rattle.std.specs.Borrow.{Bor}
use Rattle.std.specs.List.{find}
use Rattle.std.specs.Option.{option_map, option_or}
use Rattle.std.specs.Result.{result_map_both}
use Rattle.std.proofs.lemmas.List.Folds.{find-append}
use Rattle.pdb_base.specs.declared.error.Error.{Error}
use Rattle.pdb_base.specs.Left.{Left, RejectsAll, StopsAt, Finds, Tests, found_or, found_in}

module _ {F X A : Type 0} (shown : X → A) (g : Mut F (Bor X × Unit {0}) (Result Bool Error)) (test : A → Bool) (tests : Tests shown g test) where
  none_passes : (p q : F) (xs : List X) → RejectsAll shown g p xs q → find test (map shown xs) ≡ None
  none_passes p q [] h = refl
  none_passes p q (x ∷ xs) h =
      let said : Ok false ≡ Ok (test (shown x)) = tests p x (Ok false) h.0 h.1 in
      let no : test (shown x) ≡ false = cc in
      rw no (none_passes h.0 q xs h.2)

  behind : (xs ys : List A) → find test xs ≡ None → find test (xs ++ ys) ≡ find test ys
  behind xs ys none = find-append test xs ys ∙ ap (λ o. option_or o (find test ys)) none

  passes : (xs ys : List A) (x : A) → find test xs ≡ None → test x ≡ true → find test ((xs ++ x ∷ []) ++ ys) ≡ Some x
  passes xs ys x none pass = ap (find test) (append_assoc xs (x ∷ []) ys) ∙ behind xs (x ∷ ys) none ∙ rw pass refl

  stopped : (old new : Left A) (xs : List X) (q : F) (r : Result (Option X) Error) → find test (map shown xs) ≡ None → StopsAt shown g old xs q r new → result_map_both (option_map shown) (λ e. e) r ≡ found_in test old
  stopped old new xs q (Ok (Some x)) none s =
      let said : Ok true ≡ Ok (test (shown x)) = tests q x (Ok true) s.1 s.2 in
      let pass : test (shown x) ≡ true = cc in
      sym (ap (λ o. found_or o old.fault) (ap (find test) s.0.0 ∙ passes (map shown xs) new.items (shown x) none pass))
  stopped old new xs q (Ok None) none s = sym (ap (λ o. found_or o old.fault) (ap (find test) s.0 ∙ none) ∙ ap (found_or None) s.1)
  stopped old new xs q (Err e) none (inl s) = sym (ap (λ o. found_or o old.fault) (ap (find test) s.0 ∙ none) ∙ ap (found_or None) s.1)
  stopped old new xs q (Err e) none (inr s) =
      let said : Err e ≡ Ok (test (shown s.0)) = tests q s.0 (Err e) s.2 s.3 in
      absurd cc

  pub found_by_test : (old new : Left A) (p : F) (r : Result (Option X) Error) → Finds shown g old p r new → result_map_both (option_map shown) (λ e. e) r ≡ found_in test old
  found_by_test old new p r h = stopped old new h.0 h.1 r (none_passes p h.1 h.0 h.2) h.3

-- How deep stacks are, by the node outside.
use Rattle.std.proofs.Common.{◌≡◌, ℕ, zero, suc, ◌+◌, ◌-◌, ◌<◌, ◌≤◌, List, [], ◌∷◌, ◌++◌, length, refl, sym, ◌∙◌, arith, eq-eqb}
use Rattle.std.specs.Prelude.{nat_le}
use Rattle.std.proofs.lemmas.Bool.{ne_eqb, leb-true, le-leb}
use Rattle.pdb_base.proofs.Nums.{each_pushed}
use Rattle.std.proofs.lemmas.Bool.Decides.{nat_tests}
use Rattle.pdb_index.specs.declared.layout.Layout.{Layout}
use Rattle.pdb_index.specs.NodeFrames.{node_of}
use Rattle.pdb_index.specs.WellMade.{AreDepths, AreShallow, is_shallow, IsDepth}

module _ (b : List ℕ) (t : Layout) (k : ℕ) where
  one : (node_of b t k).outer ≡ 0 → (n : ℕ) → is_shallow b t n k ≡ nat_le 1 n
  unfolding is_shallow
  one e zero = refl
  one e (suc n) = let z = eq-eqb (node_of b t k).outer 0 e in rw z (grind (arith, nat_tests))

  pub outermost : (node_of b t k).outer ≡ 0 → IsDepth b t k 1
  outermost e = record { each = one e }

  more : (d : ℕ) → ((node_of b t k).outer ≡ 0 → ⊥) → IsDepth b t (k - (node_of b t k).outer) d → (n : ℕ) → is_shallow b t n k ≡ nat_le (d + 1) n
  unfolding is_shallow
  more d e h zero = grind (arith, nat_tests)
  more d e h (suc n) =
      let z = ne_eqb (node_of b t k).outer 0 e in
      let outside = h.each n in
      rw (z, outside) (grind (arith, nat_tests))

  pub deeper : (d : ℕ) → ((node_of b t k).outer ≡ 0 → ⊥) → IsDepth b t (k - (node_of b t k).outer) d → IsDepth b t k (d + 1)
  deeper d e h = record { each = more d e h }

module _ (b : List ℕ) (t : Layout) where
  -- a stack with more frames than the header says
  pub too_deep : (k d : ℕ) → IsDepth b t k d → t.deepest < d → k < t.nodes.rows → AreShallow b t → ⊥
  too_deep k d depth more lt shallow =
      let le = leb-true d t.deepest (sym (depth.each t.deepest) ∙ shallow.each k lt) in
      omega (arith, le, more)

  -- one more depth
  pub pushed : (depths : List ℕ) (d : ℕ) → AreDepths b t depths → IsDepth b t (length depths) d → d ≤ t.deepest → AreDepths b t (depths ++ d ∷ [])
  pushed depths d kept depth within = record {
    each = each_pushed (λ k x. IsDepth b t k x) depths (depths ++ d ∷ []) d refl kept.each depth;
    within = each_pushed (λ k x. x ≤ t.deepest) depths (depths ++ d ∷ []) d refl kept.within within;
  }

  -- all depths
  pub all_shallow : (depths : List ℕ) → AreDepths b t depths → t.nodes.rows ≤ length depths → AreShallow b t
  all_shallow depths kept all = record {
    each = λ k lt.
        let there : k < length depths = omega (arith, all, lt) in
        (kept.each k there).each t.deepest ∙ le-leb _ _ (kept.within k there);
  }

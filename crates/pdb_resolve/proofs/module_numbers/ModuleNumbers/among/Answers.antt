use Rattle.std.proofs.Common.{◌≡◌, ◌+◌, ◌-◌, ◌<◌, ℕ, List, length, drop, ap, sym, ◌∙◌, arith}
use Rattle.std.specs.Str.{bytes_eq}
use Rattle.pdb.specs.Modules.{ModuleEntry}
use Rattle.pdb_resolve.specs.ModuleNumbers.{number_from}
use Rattle.pdb_resolve.specs.NumberViews.{number_in}
use Rattle.pdb_resolve.proofs.NumberLaws.{another_name, passed_by}
use Rattle.pdb_resolve.proofs.module_numbers.ModuleNumbers.among.Goals as goal

-- a module of a name that isn't asked for
pub loop-left-preserved : goal.loop-left-preserved
loop-left-preserved c =
    let inside = c.loop-left.invariant.inside in
    let some = c.loop-left-test.true in
    let i = c.loop-left.left - 1 in
    let m = c.index-listed-left.result in
    let lt : i < length c.args.listed.now = omega (arith, inside, some) in
    let next : c.loop-left.left ≡ i + 1 = omega (arith, some) in
    let named = c.as_bytes-name.ensures ∙ (c.raw_module_name.ensures ∙ ap (λ (x : ModuleEntry). x.module_name) c.index-listed-left.is) in
    record {
      inside = omega (arith, inside);
      numbered = λ q h.
          let other = another_name (number_in c.args.names.now) c.as_bytes-name.result.now q (sym c.contains_key.ensures ∙ c.if-contains_key.false) h in
          c.loop-left.invariant.numbered q h
          ∙ (ap (λ (n : ℕ). number_from n (drop n c.args.listed.now) q) next
          ∙ sym (passed_by c.args.listed.now i m q lt (ap (λ (n : List ℕ). bytes_eq n q) (sym named) ∙ other)));
    }

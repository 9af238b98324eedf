use Rattle.std.proofs.Common.{rules, ◌≡◌, leb}
use Rattle.std.proofs.lemmas.Fn.{always_returns_same}
use Rattle.pdb_code.specs.Kept.{place_of}
use Rattle.pdb_code.proofs.Scopes.{upto_point}
use Rattle.pdb_code.proofs.calls.count_upto.Goals as goal

pub returns : goal.returns
returns c =
    upto_point c.args.sites.now c.args.index c.partition_point.result c.requires c.partition_point.ensures.bound
    (c.partition_point.ensures.partitioned (λ s. leb (place_of s) c.args.index) (always_returns_same _ (λ a r. r ≡ leb (place_of a.0.now) c.args.index) _ (λ a r q k. search rules)))

use Rattle.std.proofs.Common.{◌≡◌, ◌<◌, ◌≤◌, length, ap, ◌∙◌, leb, leb-true, leb-false, rules}
use Rattle.std.specs.List.{AllWithin}
use Rattle.std.specs.List.Sorted.{IsPartitionedBy}
use Rattle.std.proofs.lemmas.List.Sorted.{IsPartitionPoint-from_clause, IsPartitionedBy-leb}
use Rattle.pdb_file.specs.declared.run.Run.{Run}
use Rattle.pdb_file.proofs.Files.{rising}
use Rattle.pdb_file.proofs.held.Held.before.Goals as goal

pub returns-clause-front : goal.returns-clause-front
returns-clause-front c =
    let same : c.deref.result.now ≡ c.args.self.now.runs = c.deref.ensures.value ∙ ap (λ k. k.runs) c.self.view_is in
    let parted : IsPartitionedBy (λ (r : Run). leb r.at c.args.at) c.deref.result.now = rw c.deref.ensures.value (IsPartitionedBy-leb (λ (r : Run). r.at) c.self.inside.runs.items c.args.at (rising _ c.self.invariant)) in
    let point = IsPartitionPoint-from_clause (λ (r : Run). leb r.at c.args.at) _ _ c.partition_point.ensures.partitioned parted (λ a r q k. search rules) in
    let all : AllWithin (λ (r : Run). r.at ≤ c.args.at) c.deref.result.now 0 c.partition_point.result = λ k d low h. leb-true _ _ (point.0 k d low h) in
    rw same at all

pub returns-clause-back : goal.returns-clause-back
returns-clause-back c =
    let same : c.deref.result.now ≡ c.args.self.now.runs = c.deref.ensures.value ∙ ap (λ k. k.runs) c.self.view_is in
    let parted : IsPartitionedBy (λ (r : Run). leb r.at c.args.at) c.deref.result.now = rw c.deref.ensures.value (IsPartitionedBy-leb (λ (r : Run). r.at) c.self.inside.runs.items c.args.at (rising _ c.self.invariant)) in
    let point = IsPartitionPoint-from_clause (λ (r : Run). leb r.at c.args.at) _ _ c.partition_point.ensures.partitioned parted (λ a r q k. search rules) in
    let all : AllWithin (λ (r : Run). c.args.at < r.at) c.deref.result.now c.partition_point.result (length c.deref.result.now) = λ k d low h. leb-false _ _ (point.1 k d low h) in
    rw same at all

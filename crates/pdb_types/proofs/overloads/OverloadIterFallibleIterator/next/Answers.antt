use Rattle.std.proofs.Common.{◌≤◌, rules, arith, ap, refl, length}
use Rattle.pdb_base.specs.Cursor.{Cursor}
use Rattle.pdb_base.proofs.Readings.{read_moves, read_item, read_fault, read_end}
use Rattle.pdb_types.specs.Overloads.{overload_at, overload_length}
use Rattle.pdb_types.proofs.OverloadLemmas.{overloads_within}
use Rattle.pdb_types.proofs.overloads.OverloadIterFallibleIterator.next.Goals as goal

pub returns-then-is_empty-clause-yields : goal.returns-then-is_empty-clause-yields
returns-then-is_empty-clause-yields c =
    let before = c.args.self.now in
    read_end overload_at overload_length overloads_within (λ x. x) _ before.buffer before.buffer refl (search rules)

pub invariant_of-self : goal.invariant_of-self
invariant_of-self c =
    let before = c.args.self.now in
    let moves = read_moves overload_at overload_length overloads_within (λ x. x) before.buffer c.read_overload.new.buffer c.in-Ok.method c.in-Ok.ensures in
    let same = ap length c.in-Ok.ensures.1 in
    record {
      small = omega (arith, same, before.small);
      inside = moves.1;
      going = λ _. omega (arith, moves, before.going, c.tick.ensures);
      counted = omega (arith, moves, before.going, c.tick.ensures);
    }

pub returns-in-Ok-clause-yields : goal.returns-in-Ok-clause-yields
returns-in-Ok-clause-yields c =
    let before = c.args.self.now in
    read_item overload_at overload_length overloads_within (λ x. x) _ before.buffer c.read_overload.new.buffer refl c.in-Ok.method c.in-Ok.ensures

pub returns-in-Err-clause-yields : goal.returns-in-Err-clause-yields
returns-in-Err-clause-yields c =
    let before = c.args.self.now in
    let small = ap length c.in-Err.ensures.1 in
    let same = ap (λ (x : Cursor). x.bytes) c.seek.ensures in
    let place = ap (λ (x : Cursor). x.place) c.seek.ensures in
    let past : length c.seek.new.self.bytes ≤ c.seek.new.self.place = rw (same, place) (omega (arith, small, before.small)) in
    read_fault overload_at overload_length overloads_within (λ x. x) _ before.buffer c.read_overload.new.buffer refl c.in-Err.error c.seek.new.self.bytes c.seek.new.self.place (search rules) c.in-Err.ensures same past

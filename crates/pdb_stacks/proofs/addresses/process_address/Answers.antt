use Rattle.std.proofs.Common.{◌∙◌, sym}
use Rattle.std.proofs.lemmas.Bool.{le-leb, lt-leb}
use Rattle.pdb_stacks.proofs.WordSteps.{behind_all, long_address, no_address, other_byte, read_before, short_address, whole}
use Rattle.pdb_stacks.proofs.addresses.process_address.Goals as goal
use Rattle.pdb_stacks.proofs.addresses.process_address.Goals.{then-at-free+then-is_of+in-Some+else-address-ge4294967296, then-at-free+then-is_of+in_default, else-at-free, else-at-free-via-then-at-free+else-is_of, else-at-free-via-else-at-free}

pub loop-at-init : goal.loop-at-init
loop-at-init c = whole c.args.line.now

pub returns-then-address-ge4294967296 : goal.returns-then-address-ge4294967296
returns-then-address-ge4294967296 c =
    let one = rw c.run_end-free.ensures.is at (sym c.in-Some.ensures) in
    let long = le-leb 4294967296 c.in-Some.address.number c.if-address-ge4294967296.true in
    sym (c.loop-at.invariant ∙ long_address c.args.line.now c.loop-at.first c.loop-at.free c.loop-at.at c.in-Some.address c.loop-at-test.true c.if-at-free.true (sym c.if-is_of.ensures) one long)

pub loop-at-preserved : goal.loop-at-preserved
loop-at-preserved c =
    let line = c.args.line.now in
    let first = c.loop-at.first in
    let free = c.loop-at.free in
    let at = c.loop-at.at in
    let inside = c.loop-at-test.true in
    elim c.if-at-free.branch [
      | then-at-free+then-is_of+in-Some+else-address-ge4294967296 w ↦
          let one = rw w.run_end-free.ensures.is at (sym w.in-Some.ensures) in
          let short = lt-leb 4294967296 w.in-Some.address.number w.if-address-ge4294967296.false in
          rw (w.first-is, w.kept-first.ensures, w.free-is, w.run_end-free.ensures.is)
          (c.loop-at.invariant ∙ short_address line first free at w.in-Some.address inside w.if-at-free.true (sym w.if-is_of.ensures) one short)
      | then-at-free+then-is_of+in_default w ↦
          let none = rw w.run_end-free.ensures.is at (sym w.in_default.ensures) in
          rw (w.first-is, w.free-is, w.run_end-free.ensures.is)
          (c.loop-at.invariant ∙ no_address line first free at inside w.if-at-free.true (sym w.if-is_of.ensures) none)
      | else-at-free w ↦
          rw (w.first-is, w.free-is)
          (elim w.else-at-free.branch [
            | else-at-free-via-then-at-free+else-is_of v ↦ c.loop-at.invariant ∙ other_byte line first free at inside (sym v.if-is_of.ensures)
            | else-at-free-via-else-at-free v ↦ c.loop-at.invariant ∙ read_before line first free at inside v.if-at-free.false
          ])
    ]

pub returns : goal.returns
returns c = sym (c.loop-at.invariant ∙ behind_all c.args.line.now c.loop-at.first c.loop-at.free c.loop-at.at c.loop-at-test.false)

use Rattle.std.proofs.Common.{◌≡◌, ℕ, Bool, List, refl, ap, ◌∙◌, subst}
use Rattle.pdb.proofs.Passing.{continues_then}
use Rattle.tool_arguments.specs.Requests.{RequestOf, request_view}
use Rattle.tool_addresses.specs.CodeTexts.{is_damaged_at}
use Rattle.tool_addresses.specs.RequestTexts.{address_shown, request_shown, request_text}
use Rattle.tool_printing.specs.Printing.{Halted, Printed, Shown, all_shown}
use Rattle.tool_printing.proofs.All.{all_halted, all_here, all_more}
use Rattle.tool_printing.proofs.Printed.{prints_err}
use Rattle.tool_addresses.proofs.resolve.print_addresses.Goals as goal

-- what was composed for a request of an address, of this file
shown_is : (file whole : List ℕ) (r wanted : RequestOf) (bytes : List ℕ) (damaged : Bool) → file ≡ whole → r ≡ wanted → bytes ≡ request_text file r → damaged ≡ is_damaged_at file r.address
    → record { bytes = bytes; damaged = damaged } ≡ request_shown whole wanted
shown_is file whole r wanted bytes damaged f w b d = rw (b, d, f, w) refl

pub returns-in_err-is_damaged-clause-prints : goal.returns-in_err-is_damaged-clause-prints
returns-in_err-is_damaged-clause-prints g c = λ told.
    let text = address_shown c.args.resolver.now.file c.args.options in
    let halted = all_here text _ _ c.args.addresses.now c.loop-address.address-index (c.loop-address.invariant.printed (c.put_request.ensures.continues.told told)) in
    prints_err (all_shown text c.args.addresses.now) _ _ c.from_residual.result _ c.from_residual.ensures.1 halted

pub returns-in_err-print_bytes-clause-prints : goal.returns-in_err-print_bytes-clause-prints
returns-in_err-print_bytes-clause-prints g c = λ told.
    let so_far = c.loop-address.invariant in
    let text = address_shown c.args.resolver.now.file c.args.options in
    let bytes = rw c.clear.ensures.items at (c.in_ok-is_damaged.ensures.text told) in
    let is = shown_is _ _ _ _ _ _ so_far.continues.file c.request_of.ensures bytes (c.in_ok-is_damaged.ensures.damaged told) in
    let printed = rw (c.deref.ensures.value) at c.in_err-print_bytes.ensures.prints in
    let one = subst (λ (a : Shown). Halted a (g.P.Printer.state c.loop-address.out) (g.P.Printer.state c.print_bytes.new.self)) is printed in
    let halted = all_halted text _ _ _ c.args.addresses.now c.loop-address.address-index _ c.loop-address-test.true (so_far.printed (c.put_request.ensures.continues.told told)) one in
    prints_err (all_shown text c.args.addresses.now) _ _ c.from_residual-in_err-print_bytes.result _ c.from_residual-in_err-print_bytes.ensures.1 halted

pub loop-address-preserved : goal.loop-address-preserved
loop-address-preserved g c =
    let so_far = c.loop-address.invariant in
    record {
      continues = continues_then _ _ _ so_far.continues c.put_request.ensures.continues;
      printed = λ told.
          let bytes = rw c.clear.ensures.items at (c.in_ok-is_damaged.ensures.text told) in
          let is = shown_is _ _ _ _ _ _ so_far.continues.file c.request_of.ensures bytes (c.in_ok-is_damaged.ensures.damaged told) in
          let printed = rw (c.deref.ensures.value) at c.in_ok-print_bytes.ensures.prints in
          let one = subst (λ (a : Shown). Printed a (g.P.Printer.state c.loop-address.out) (g.P.Printer.state c.print_bytes.new.self)) is printed in
          all_more (address_shown c.args.resolver.now.file c.args.options) _ _ _ c.args.addresses.now c.loop-address.address-index _ c.loop-address-test.true (so_far.printed (c.put_request.ensures.continues.told told)) one;
      failures = c.in_ok-print_bytes.ensures.failures ∙ so_far.failures;
    }

use Rattle.std.proofs.Common.{◌≡◌, map, drop}
use Rattle.tool_arguments.specs.Requests.{address_view, first_needing}
use Rattle.tool_arguments.proofs.requests.first_needing.Given as goal

-- none so far needs a base
abbrev pub invariant-loop-address : goal.invariant-loop-address
invariant-loop-address l = first_needing l.options (map address_view l.addresses) ≡ first_needing l.options (map address_view (drop l.address-index l.addresses))

use Rattle.std.proofs.Common.{◌≡◌, ◌++◌, map, drop}
use Rattle.pdb.specs.Inlinees.{inlinee_with}
use Rattle.pdb_code.specs.Kept.{shown_call, calls_until}
use Rattle.pdb_code.specs.Listed.{entry_of}
use Rattle.pdb_code.proofs.calls.calls_of.Given as goal

-- the calls so far, and those of the sites that are left, are all
abbrev pub invariant-loop-site : goal.invariant-loop-site
invariant-loop-site l =
    map shown_call l.calls.items ++ calls_until l.fn.place (inlinee_with l.known) l.fn.procedure.place l.fn.procedure.end (map entry_of (drop l.site-index l.sites))
    ≡ calls_until l.fn.place (inlinee_with l.known) l.fn.procedure.place l.fn.procedure.end (map entry_of l.fn.sites)

use Rattle.std.proofs.Common.{◌≡◌}
use Rattle.std.specs.Slice.Iter.{chunks_exact_rest, chunks_exact_size}
use Rattle.pdb_dbi.specs.Features.{has_id_code}
use Rattle.pdb_dbi.proofs.features.has_id_code.Given as goal

-- no code so far was one of them
abbrev pub invariant-loop-code : goal.invariant-loop-code
invariant-loop-code l =
    record {
      can_next : (goal.iterator-loop-code).can_next l.code-iterator;
      is_finite : (goal.iterator-loop-code).is_finite l.code-iterator;
      four : chunks_exact_size l.code-iterator ≡ 4;
      searching : has_id_code (chunks_exact_rest l.code-iterator) ≡ has_id_code l.fn.bytes;
    }

use Rattle.std.proofs.Common.{arith}
use Rattle.pdb_modules.proofs.RowLemmas.{note_whole, note_own}
use Rattle.pdb_modules.proofs.rows.note.Goals as goal

pub returns-then-count-gt0-clause-whole : goal.returns-then-count-gt0-clause-whole
returns-then-count-gt0-clause-whole c =
    note_whole _ _ _ _ c.len-count.result _ _ (omega arith) (omega (arith, c.args.rows.now.ok.0)) (omega arith) (record { place = c.note.ensures.place; line = c.note.ensures.line; reach = c.note.ensures.length; own_reach = c.note.ensures.own }) c.index_mut.ensures.value

pub returns-then-count-gt0-clause-own : goal.returns-then-count-gt0-clause-own
returns-then-count-gt0-clause-own c =
    note_own _ _ _ _ c.len-count.result _ _ (omega arith) (omega (arith, c.args.rows.now.ok.0)) (omega arith) (omega arith) (record { place = c.note.ensures.place; line = c.note.ensures.line; reach = c.note.ensures.length; own_reach = c.note.ensures.own }) c.index_mut.ensures.value

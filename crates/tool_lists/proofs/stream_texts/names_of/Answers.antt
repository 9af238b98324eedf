use Rattle.pdb.specs.DbiViews.{information}
use Rattle.tool_lists.proofs.StreamNames.{read_names}
use Rattle.tool_lists.proofs.stream_texts.names_of.Goals as goal

pub returns-in-Some-clause-names : goal.returns-in-Some-clause-names
returns-in-Some-clause-names c = λ file h.
    read_names file (information c.in-Some.information.now) c.stream_names.result c.if_read.result (rw c.in-Some.is at h) c.stream_names.ensures.names c.if_read.ensures.some c.if_read.ensures.none

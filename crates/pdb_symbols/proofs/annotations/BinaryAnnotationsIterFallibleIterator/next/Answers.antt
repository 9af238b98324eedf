use Rattle.std.proofs.Common.{arith, rules}
use Rattle.pdb_symbols.proofs.AnnotationSteps.{annotation_left, zero_left, refused_left, end_left}
use Rattle.pdb_symbols.proofs.annotations.BinaryAnnotationsIterFallibleIterator.next.Goals as goal

pub returns-then-self-clause-yields : goal.returns-then-self-clause-yields
returns-then-self-clause-yields c = end_left c.args.self.now.bytes.now c.args.self.now.at (omega (arith, c.if-self.true))

pub returns-in-Some-clause-yields : goal.returns-in-Some-clause-yields
returns-in-Some-clause-yields c = annotation_left _ _ _ c.in-Ok.found c.in-Ok.ensures.reads c.in-Some.is

pub returns-in-None-clause-yields : goal.returns-in-None-clause-yields
returns-in-None-clause-yields c = zero_left c.args.self.now.bytes.now c.args.self.now.at c.in-Ok.found c.in-Ok.ensures.reads c.in-None.is

pub returns-in-Err-clause-yields : goal.returns-in-Err-clause-yields
returns-in-Err-clause-yields c = refused_left c.args.self.now.bytes.now c.args.self.now.at c.in-Err.error (search rules) c.in-Err.ensures.reads.0

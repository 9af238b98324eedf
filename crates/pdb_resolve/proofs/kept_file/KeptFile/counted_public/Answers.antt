use Rattle.pdb_resolve.proofs.Continuing.{with_globals}
use Rattle.pdb_resolve.proofs.kept_file.KeptFile.counted_public.Goals as goal

pub returns-in_err-begins-clause-kept : goal.returns-in_err-begins-clause-kept
returns-in_err-begins-clause-kept g c = c.begins.ensures.kept c.find.new.pdb (with_globals c.args.pdb.now c.find.new.pdb c.args.self.now c.find.new.self c.find.ensures.continues c.requires c.find.ensures.kept)

pub returns-then-branch-clause-kept : goal.returns-then-branch-clause-kept
returns-then-branch-clause-kept g c = c.begins.ensures.kept c.find.new.pdb (with_globals c.args.pdb.now c.find.new.pdb c.args.self.now c.find.new.self c.find.ensures.continues c.requires c.find.ensures.kept)

pub returns-clause-kept : goal.returns-clause-kept
returns-clause-kept g c = c.begins.ensures.kept c.find.new.pdb (with_globals c.args.pdb.now c.find.new.pdb c.args.self.now c.find.new.self c.find.ensures.continues c.requires c.find.ensures.kept)

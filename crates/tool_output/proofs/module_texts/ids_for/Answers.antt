use Rattle.std.proofs.Common.{ℕ, Option, ap}
use Rattle.tool_output.proofs.module_texts.ids_for.Goals as goal

pub returns-in-Ok-clause-ids : goal.returns-in-Ok-clause-ids
returns-in-Ok-clause-ids g c = λ told. ap (λ (f : ℕ → Option ℕ). g.T.ModuleText.text c.args.texts.now f c.args.k c.args.info.now) (c.in-Ok.ensures.ids told)

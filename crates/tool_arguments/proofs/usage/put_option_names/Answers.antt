use Rattle.tool_arguments.specs.OptionNames.{options}
use Rattle.tool_arguments.specs.Usage.{listed}
use Rattle.tool_arguments.proofs.Pieces.{one_more}
use Rattle.tool_arguments.specs.declared.option_names.OptionName.TheVariants.{Base}
use Rattle.tool_arguments.proofs.usage.put_option_names.Goals as goal

pub loop-option-preserved : goal.loop-option-preserved
loop-option-preserved c = one_more (listed c.args.command) options c.loop-option.option-index Base _ c.loop-option.out.items c.args.out.now.items c.loop-option-test.true c.loop-option.invariant (c.in_ok-put_listed.ensures)

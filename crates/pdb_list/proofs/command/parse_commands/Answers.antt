use Rattle.std.proofs.Common.{◌≤◌, length, map, string_bytes, Ok, sym, ap, ◌∙◌, arith, length-append, append-nil}
use Rattle.std.proofs.lemmas.List.{length-map}
use Rattle.pdb_list.specs.Words.{behind, spelled}
use Rattle.pdb_list.proofs.Spelling.{begins, goes_on, from_end}
use Rattle.pdb_list.proofs.command.parse_commands.Goals as goal

pub loop-at-init : goal.loop-at-init
loop-at-init g c =
    let words = map string_bytes c.args.words.now in
    record {
      fewer = omega (arith, ap length c.new-commands.ensures.items);
      told = begins words c.new-commands.result.items (length c.args.words.now) (sym (length-map c.args.words.now string_bytes)) c.new-commands.ensures.items;
    }

pub loop-at-preserved : goal.loop-at-preserved
loop-at-preserved g c =
    let words = map string_bytes c.args.words.now in
    let same = sym (length-map c.args.words.now string_bytes) in
    record {
      fewer = omega (arith, ap length c.in_ok-push.ensures.items, simp length-append at (ap length c.in_ok-push.ensures.items), c.in_ok-command.ensures.count);
      told = rw c.in_ok-push.ensures.items (goes_on words (spelled words) c.loop-at.commands.items (length c.args.words.now) c.loop-at.at c.in_ok-command.command c.in_ok-command.count
          same c.loop-at.invariant.fewer (omega arith) c.in_ok-command.ensures.command c.loop-at.invariant.told);
    }

pub returns : goal.returns
returns g c =
    let words = map string_bytes c.args.words.now in
    let past : length words ≤ c.loop-at.at = omega (arith, length-map c.args.words.now string_bytes, c.loop-at-test.false) in
    c.loop-at.invariant.told ∙ ap (behind c.loop-at.commands.items) (from_end _ c.loop-at.at words past) ∙ ap Ok (append-nil c.loop-at.commands.items)

use Rattle.std.proofs.Common.{rules, ◌≡◌, ◌-◌, ◌≤◌, ◌<◌, refl, sym, ◌∙◌, arith}
use Rattle.std.proofs.lemmas.List.{append-nil}
use Rattle.std.specs.Prelude.{codes}
use Rattle.std.specs.Fmt.{decimal}
use Rattle.std.specs.Option.{option_map}
use Rattle.pdb_items.specs.IdForms.{type_index_of}
use Rattle.pdb_types.specs.Cuts.{IsCut}
use Rattle.pdb_types.specs.FullTypes.{first_definition, size_of}
use Rattle.pdb_types.specs.SimpleTypes.{simple_text}
use Rattle.pdb_types.specs.TypeReading.{arguments_of, shown_type}
use Rattle.pdb_types.specs.TypeTexts.{count_text, member_gap, name_in, parts, small, small_size}
use Rattle.pdb_types.proofs.CutLemmas.{cut_none, list_end, list_more, on_four, on_three}
use Rattle.pdb_types.proofs.NameSteps.{parts_simple}
use Rattle.pdb_types.proofs.VisitSteps.{before_paid, behind_paid, one_most, one_paid, words_some_before, words_some_behind}
use Rattle.pdb_types.proofs.WrapperSteps.{back_step, shape_step}
use Rattle.pdb_types.proofs.+pieces.Goals as goal

pub backs::put_array_back-returns-clause-ok : goal.backs::put_array_back-returns-clause-ok
backs::put_array_back-returns-clause-ok t c =
    let first = first_definition c.args.full.now in
    let counted : IsCut c.args.limit c.put.new.out.items (count_text (small c.args.array.size) (small_size (size_of c.args.types.now first c.args.array.element.0))) c.put_count.new.out.items = search rules in
    on_four c.put_back.result c.args.limit c.args.out.now.items (codes "[") (count_text (small c.args.array.size) (small_size (size_of c.args.types.now first c.args.array.element.0))) (codes "]") (parts c.args.types.now first c.args.depth c.args.array.element.0).back _ _ _ _
    c.in_ok-put.ensures.ok counted c.in_ok-put-2.ensures.ok c.put_back.ensures.ok

pub backs::put_bits_back-returns-clause-ok : goal.backs::put_bits_back-returns-clause-ok
backs::put_bits_back-returns-clause-ok t c =
    on_three c.put_number.result c.args.limit c.args.out.now.items (parts c.args.types.now (first_definition c.args.full.now) c.args.depth c.args.bits.underlying.0).back (codes " : ") (decimal c.args.bits.len) _ _ _
    c.in_ok-put_back.ensures.ok c.in_ok-put.ensures.ok (rw c.from.ensures at c.put_number.ensures.ok)

pub names::put_list-loop-k-init : goal.names::put_list-loop-k-init
names::put_list-loop-k-init t c = (cut_none c.args.limit _ c.in_ok-put.ensures.ok.fits, λ below. omega arith, (let fits = c.in_ok-put.ensures.ok.fits in omega (arith, fits)), λ long. refl)

pub names::put_list-loop-k-preserved : goal.names::put_list-loop-k-preserved
names::put_list-loop-k-preserved t c = (
  list_more c.args.limit (λ j. name_in (parts c.args.types.now (first_definition c.args.full.now) c.args.depth j)) (arguments_of c.args.arguments.now) c.loop-k.k (type_index_of 0) _ _ _ _
      (omega (arith, c.loop-k-test.true, c.len-count.ensures)) c.loop-k.invariant.0 (rw c.at.ensures at c.in_ok-put_name_at.ensures.ok) c.in_ok-put-2.ensures.ok,
  one_paid c.args.limit c.args.depth _ _ _ _ _ _ _ c.requires.deep c.in_ok-put_name_at.ensures.ok.grows c.in_ok-put-2.ensures.ok.grows c.in_ok-put-2.ensures.whole c.loop-k.invariant.1 c.in_ok-put_name_at.ensures.paid,
  one_most c.args.limit c.args.depth _ _ _ _ _ c.loop-k.invariant.1 c.loop-k.invariant.2 c.in_ok-put_name_at.ensures.most c.in_ok-put_name_at.ensures.idle,
  λ long. c.in_ok-put_name_at.ensures.idle (let grows = c.loop-k.invariant.0.grows in omega (arith, grows, long)) ∙ c.loop-k.invariant.3 long,
)

pub names::put_list-returns-clause-ok : goal.names::put_list-returns-clause-ok
names::put_list-returns-clause-ok t c =
    let last = c.len-count.result - 1 in
    let done : c.loop-k.k ≡ last = omega (arith, c.loop-k-test.false, c.loop-k.auto.k-end, c.if-count-eq0.false) in
    list_end c.put-3.result c.args.limit (λ j. name_in (parts c.args.types.now (first_definition c.args.full.now) c.args.depth j)) (arguments_of c.args.arguments.now) last (type_index_of 0) _ _ _ _ _
    (omega (arith, c.len-count.ensures, c.if-count-eq0.false)) c.in_ok-put.ensures.ok (rw done at c.loop-k.invariant.0) (rw c.at-2.ensures at c.in_ok-put_last.ensures.ok) c.put-3.ensures.ok

pub names::put_name_at-returns-then-index-lt4096-clause-ok : goal.names::put_name_at-returns-then-index-lt4096-clause-ok
names::put_name_at-returns-then-index-lt4096-clause-ok t c =
    rw (parts_simple c.args.types.now (first_definition c.args.full.now) c.args.depth c.args.index c.if-index-lt4096.true, append-nil (simple_text c.args.index)) c.put_simple.ensures.ok

pub fronts::put_member_mark-returns-clause-ok : goal.fronts::put_member_mark-returns-clause-ok
fronts::put_member_mark-returns-clause-ok t c =
    on_three c.put.result c.args.limit c.args.out.now.items (member_gap c.args.shape) (name_in (parts c.args.types.now (first_definition c.args.full.now) c.args.depth c.args.class)) (codes "::*") _ _ _
    c.in_ok-put_member_gap.ensures.ok c.in_ok-put_name_at.ensures.ok c.put.ensures.ok

pub backs::put_pointer_back-returns-clause-ok : goal.backs::put_pointer_back-returns-clause-ok
backs::put_pointer_back-returns-clause-ok t c =
    let first = first_definition c.args.full.now in
    let says = option_map shown_type c.visit_wrapper-says.result in
    let high = c.if-referent-lt4096.false in
    let deep = c.if-depth-eq0.false in
    let up : 0x1000 ≤ c.args.referent = omega (arith, high) in
    let down : 0 < c.args.depth = omega (arith, deep) in
    rw (shape_step c.args.types.now first c.args.depth c.args.referent says up down c.visit_wrapper-says.ensures.said, back_step c.args.types.now first c.args.depth c.args.referent says up down c.visit_wrapper-says.ensures.said) c.put_closed_by.ensures.ok

pub fronts::put_modifier_front-returns-in_ok-put_front-clause-paid : goal.fronts::put_modifier_front-returns-in_ok-put_front-clause-paid
fronts::put_modifier_front-returns-in_ok-put_front-clause-paid t c =
    behind_paid c.put_words_behind.result c.args.limit c.args.depth _ _ _ _ _ _ _ c.requires.deep c.is_right.ensures.few (words_some_behind c.args.modifier.qualifiers (sym c.is_empty.ensures ∙ c.if-is_empty.false)) c.in_ok-put_front.ensures.paid c.put_words_behind.ensures.ok

pub fronts::put_modifier_front-returns-in_ok-put_words_before-clause-paid : goal.fronts::put_modifier_front-returns-in_ok-put_words_before-clause-paid
fronts::put_modifier_front-returns-in_ok-put_words_before-clause-paid t c =
    before_paid c.put_front-else-is_right.result c.args.limit c.args.depth _ _ _ _ _ _ _ _ c.requires.deep c.is_right.ensures.few (words_some_before c.args.modifier.qualifiers c.requires.unrestricted (sym c.is_empty.ensures ∙ c.if-is_empty.false)) c.in_ok-put_words_before.ensures.ok c.put_front-else-is_right.ensures.ok c.put_front-else-is_right.ensures.paid

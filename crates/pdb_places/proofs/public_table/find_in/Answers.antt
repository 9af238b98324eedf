use Rattle.std.proofs.Common.{◌≡◌, ◌<◌, ◌^◌, ℕ, List, length, get_or, sym, subst, ap, ◌∙◌, arith}
use Rattle.std.specs.List.Sorted.{IsNonDecreasingBy}
use Rattle.pdb.specs.PdbInternalSectionOffset.{PdbInternalSectionOffset}
use Rattle.pdb_places.specs.declared.public_place.PublicPlace.{PublicPlace}
use Rattle.pdb_places.specs.PublicNames.{PublicAt}
use Rattle.pdb_places.specs.PublicTable.{key_of, key_upto, IsUptoCount, IsPublicTable}
use Rattle.pdb_places.proofs.PublicRows.{rows_count, none_counted, found_counted, other_counted}
use Rattle.pdb_places.proofs.public_table.find_in.Goals as goal

-- the count over what a slice has of a table
counted : (q : PdbInternalSectionOffset) (xs rs : List PublicPlace) (last n : ℕ) → xs ≡ rs → last ≡ key_upto q → IsUptoCount last xs n → IsUptoCount (key_upto q) rs n
counted q xs rs last n e f h = subst (λ (l : List PublicPlace). IsUptoCount (key_upto q) l n) e (subst (λ (m : ℕ). IsUptoCount m xs n) f h)

here : (xs rs : List PublicPlace) (k : ℕ) (r : PublicPlace) → xs ≡ rs → r ≡ get_or xs k r → get_or rs k r ≡ r
here xs rs k r e is = ap (λ (l : List PublicPlace). get_or l k r) (sym e) ∙ sym is

looks : (ps : List PublicAt) (xs rs : List PublicPlace) (digits : ℕ) → xs ≡ rs → IsPublicTable ps rs → length ps < 2 ^ digits → length xs < 2 ^ digits
looks ps xs rs digits e t l = rw (e, rows_count ps rs t) l

as_many : (ps : List PublicAt) (xs rs : List PublicPlace) → xs ≡ rs → IsPublicTable ps rs → length xs ≡ length ps
as_many ps xs rs e t = ap (λ (l : List PublicPlace). length l) e ∙ rows_count ps rs t

pub count_upto-count-requires : goal.count_upto-count-requires
count_upto-count-requires c = subst (λ (l : List PublicPlace). IsNonDecreasingBy key_of l) (sym c.as_slice-rows.ensures.value) c.requires

pub returns-then-count-eq0-clause-found : goal.returns-then-count-eq0-clause-found
returns-then-count-eq0-clause-found c = λ ps t.
    sym (none_counted c.args.place c.key_upto-last.ensures.fits ps c.args.table.now.sorted.items t _ (counted c.args.place _ _ _ _ c.as_slice-rows.ensures.value c.key_upto-last.ensures.key c.count_upto-count.ensures.count) c.if-count-eq0.true)

pub returns-then-count-eq0-clause-halved : goal.returns-then-count-eq0-clause-halved
returns-then-count-eq0-clause-halved c = λ ps t digits l. c.count_upto-count.ensures.probes digits (looks ps _ _ digits c.as_slice-rows.ensures.value t l)

pub returns-then-count-eq0-clause-few : goal.returns-then-count-eq0-clause-few
returns-then-count-eq0-clause-few c = λ ps t. omega (arith, c.count_upto-count.ensures.few, as_many ps _ _ c.as_slice-rows.ensures.value t)

pub returns-then-row-place-clause-found : goal.returns-then-row-place-clause-found
returns-then-row-place-clause-found c = λ ps t.
    sym (found_counted c.args.place c.key_upto-last.ensures.fits ps c.args.table.now.sorted.items t _ (counted c.args.place _ _ _ _ c.as_slice-rows.ensures.value c.key_upto-last.ensures.key c.count_upto-count.ensures.count) (omega (arith, c.if-count-eq0.false)) c.index-rows-count.result (here _ _ _ _ c.as_slice-rows.ensures.value c.index-rows-count.is) c.if-row-place.true)

pub returns-then-row-place-clause-halved : goal.returns-then-row-place-clause-halved
returns-then-row-place-clause-halved c = λ ps t digits l. c.count_upto-count.ensures.probes digits (looks ps _ _ digits c.as_slice-rows.ensures.value t l)

pub returns-then-row-place-clause-few : goal.returns-then-row-place-clause-few
returns-then-row-place-clause-few c = λ ps t. omega (arith, c.count_upto-count.ensures.few, as_many ps _ _ c.as_slice-rows.ensures.value t)

pub returns-else-row-place-clause-found : goal.returns-else-row-place-clause-found
returns-else-row-place-clause-found c = λ ps t.
    sym (other_counted c.args.place c.key_upto-last.ensures.fits ps c.args.table.now.sorted.items t _ (counted c.args.place _ _ _ _ c.as_slice-rows.ensures.value c.key_upto-last.ensures.key c.count_upto-count.ensures.count) (omega (arith, c.if-count-eq0.false)) c.index-rows-count.result (here _ _ _ _ c.as_slice-rows.ensures.value c.index-rows-count.is) c.if-row-place.false)

pub returns-else-row-place-clause-halved : goal.returns-else-row-place-clause-halved
returns-else-row-place-clause-halved c = λ ps t digits l. c.count_upto-count.ensures.probes digits (looks ps _ _ digits c.as_slice-rows.ensures.value t l)

pub returns-else-row-place-clause-few : goal.returns-else-row-place-clause-few
returns-else-row-place-clause-few c = λ ps t. omega (arith, c.count_upto-count.ensures.few, as_many ps _ _ c.as_slice-rows.ensures.value t)

-- Items of a list that are put one after another.
use Rattle.std.proofs.Common.{◌≡◌, ℕ, ◌+◌, ◌<◌, ◌^◌, List, [], ◌∷◌, map, length, Option, None, refl, sym, ap, ◌∙◌, arith}
use Rattle.std.proofs.lemmas.List.{map-id, length-map}
use Rattle.pdb.specs.Error.{Error}
use Rattle.pdb.specs.Left.{Left}
use Rattle.pdb_c.specs.Rooms.{over, put}
use Rattle.pdb_c.specs.Lists.{IsListed, list_code, whole_list}
use Rattle.pdb_c.proofs.Putting.{put_next, put_last, put_start, map_put, over_length}

-- the next item is put as a row that is seen as it says
pub item_next : {X Y Z : Type 0} (view : X → Y) (says : Z → Y) (n : ℕ) (row : X) (item : Z) (items others : List Z) (rows after : List X) (all : List Y) → items ≡ item ∷ others → view row ≡ says item → after ≡ put n (row ∷ []) rows → put n (map says items) (map view rows) ≡ all → put (n + 1) (map says others) (map view after) ≡ all
item_next {Y = Y} {Z = Z} view says n row item items others rows after all e shown put_one so_far =
    let seen : map view after ≡ put n (view row ∷ []) (map view rows) = ap (map view) put_one ∙ map_put view n (row ∷ []) rows in
    put_next n (n + 1) (view row ∷ []) (map says others) (map view rows) (map view after) seen refl
    ∙ ap (λ (y : Y). put n (y ∷ map says others) (map view rows)) shown
    ∙ ap (λ (zs : List Z). put n (map says zs) (map view rows)) (sym e)
    ∙ so_far

pub counted_next : {Z : Type 0} (n : ℕ) (item : Z) (items others : List Z) (all : ℕ) → items ≡ item ∷ others → n + length items ≡ all → n + 1 + length others ≡ all
counted_next {Z = Z} n item items others all e so_far =
    let one = ap (λ (zs : List Z). length zs) e in
    omega (arith, one, so_far)

-- at the first item the number of all is known to fit
pub few_next : {Z : Type 0} (n : ℕ) (item : Z) (items others : List Z) (all : ℕ) → items ≡ item ∷ others → n + length items ≡ all → (length items < all → all < 2 ^ 64) → length items < 2 ^ 64 → length others < all → all < 2 ^ 64
few_next n item items others all e so_far known few h = grind (arith, so_far, known, few)

-- nothing is left: the whole list was put
pub listed_at : {X Y Z : Type 0} (view : X → Y) (says : Z → Y) (n c : ℕ) (before after : List X) (here all : Left Z) (f : Option Error) → here.items ≡ [] → here.fault ≡ f → put n (map says here.items) (map view after) ≡ put 0 (map says all.items) (map view before) → n + length here.items ≡ length all.items → here.fault ≡ all.fault → length after ≡ length before → c ≡ list_code (length after) n f → IsListed view says c before after n all
listed_at {Z = Z} view says n c before after here all f none fault told counted same room code =
    let no_items : length here.items ≡ 0 = ap (λ (zs : List Z). length zs) none in
    let count : n ≡ length all.items = omega (arith, no_items, counted) in
    record {
      rows = put_last n (map says here.items) (map view after) (put 0 (map says all.items) (map view before)) (ap (map says) none) told ∙ put_start (map says all.items) (map view before);
      count = count;
      code =
          code
          ∙ ap (λ (k : ℕ). list_code k n f) room
          ∙ ap (λ (k : ℕ). list_code (length before) k f) count
          ∙ ap (λ (g : Option Error). list_code (length before) (length all.items) g) (sym fault ∙ same);
    }

-- a list that is put whole at once
pub listed_whole : {X Y Z : Type 0} (view : X → Y) (says : Z → Y) (c : ℕ) (before after : List X) (items : List Z) (all : List Y) → map says items ≡ all → map view after ≡ over (map says items) (map view before) → c ≡ list_code (length after) (length items) None → IsListed view (λ y. y) c before after (length items) (whole_list all)
listed_whole {Y = Y} view says c before after items all is rows code =
    let count : length items ≡ length all = sym (length-map items says) ∙ ap (λ (ys : List Y). length ys) is in
    let seen : map says items ≡ map (λ (y : Y). y) all = is ∙ sym (map-id all) in
    let room : length after ≡ length before = sym (length-map after view) ∙ ap (λ (ys : List Y). length ys) rows ∙ over_length (map says items) (map view before) ∙ length-map before view in
    record {
      rows = rows ∙ ap (λ (ys : List Y). over ys (map view before)) seen;
      count = count;
      code = code ∙ ap (λ (k : ℕ). list_code k (length items) None) room ∙ ap (λ (k : ℕ). list_code (length before) k None) count;
    }

-- ---- rows that are seen as they are

-- the next item is put as the row that it says
pub row_next : {X Z : Type 0} (says : Z → X) (n : ℕ) (row : X) (item : Z) (items others : List Z) (rows after all : List X) → items ≡ item ∷ others → row ≡ says item → after ≡ put n (row ∷ []) rows → put n (map says items) rows ≡ all → put (n + 1) (map says others) after ≡ all
row_next {X = X} {Z = Z} says n row item items others rows after all e shown put_one so_far =
    put_next n (n + 1) (row ∷ []) (map says others) rows after put_one refl
    ∙ ap (λ (y : X). put n (y ∷ map says others) rows) shown
    ∙ ap (λ (zs : List Z). put n (map says zs) rows) (sym e)
    ∙ so_far

-- the next item is the row
pub same_next : {X : Type 0} (n : ℕ) (row : X) (items others rows after all : List X) → items ≡ row ∷ others → after ≡ put n (row ∷ []) rows → put n items rows ≡ all → put (n + 1) others after ≡ all
same_next {X = X} n row items others rows after all e put_one so_far =
    put_next n (n + 1) (row ∷ []) others rows after put_one refl
    ∙ ap (λ (ys : List X). put n ys rows) (sym e)
    ∙ so_far

-- a list that is put whole at once
pub rows_whole : {X Z : Type 0} (says : Z → X) (c : ℕ) (before after : List X) (items : List Z) → after ≡ over (map says items) before → c ≡ list_code (length after) (length items) None → IsListed (λ r. r) says c before after (length items) (whole_list items)
rows_whole {X = X} says c before after items rows code =
    let room : length after ≡ length before = ap (λ (ys : List X). length ys) rows ∙ over_length (map says items) before in
    record {
      rows = map-id after ∙ rows ∙ ap (λ (ys : List X). over (map says items) ys) (sym (map-id before));
      count = refl;
      code = code ∙ ap (λ (k : ℕ). list_code k (length items) None) room;
    }

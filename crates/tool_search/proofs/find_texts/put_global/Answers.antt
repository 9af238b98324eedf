use Rattle.std.proofs.Common.{◌≡◌, List, ℕ, OnOk, ◌++◌, sym, ap, subst, ◌∙◌, append-nil}
use Rattle.std.specs.Prelude.{codes}
use Rattle.pdb.specs.Forms.{kind_at}
use Rattle.tool_search.specs.PlacedRecords.{data_placed, placed_at, public_placed}
use Rattle.tool_search.proofs.GlobalKinds.{other_kind}
use Rattle.tool_search.proofs.PlacedRecords.{data_read, public_read, thread_read}
use Rattle.tool_search.proofs.find_texts.put_global.Goals as goal

pub returns-then-not-may_have_line : goal.returns-then-not-may_have_line
returns-then-not-may_have_line c =
    let none = other_kind c.args.x86 c.args.finder.now c.args.symbol.now.bytes.now (rw (c.may_have_line.ensures, c.raw_kind-kind.ensures) at c.if-not-may_have_line.true) in
    sym (append-nil c.args.out.now.items) ∙ ap (λ (xs : List ℕ). c.args.out.now.items ++ xs) (sym none)

pub returns-in-4366 : goal.returns-in-4366
returns-in-4366 c =
    let b = c.args.symbol.now.bytes.now in
    let kind : kind_at b ≡ 0x110e = sym c.raw_kind-kind.ensures ∙ c.in-4366.is in
    let same = ap (λ (b : List ℕ). public_placed c.args.x86 c.args.finder.now (placed_at b)) c.raw_bytes.ensures ∙ sym (public_read c.args.x86 c.args.finder.now b kind) in
    subst (λ (line : List ℕ). OnOk c.put_public_record.result (c.put_public_record.new.out.items ≡ c.args.out.now.items ++ line)) same c.put_public_record.ensures

pub returns-in-4365 : goal.returns-in-4365
returns-in-4365 c =
    let b = c.args.symbol.now.bytes.now in
    let kind : kind_at b ≡ 0x110d = sym c.raw_kind-kind.ensures ∙ c.in-4365.is in
    let same = ap (λ (b : List ℕ). data_placed (codes "data") c.args.finder.now (placed_at b)) c.raw_bytes-in-4365.ensures ∙ sym (data_read c.args.x86 c.args.finder.now b kind) in
    subst (λ (line : List ℕ). OnOk c.put_data_record.result (c.put_data_record.new.out.items ≡ c.args.out.now.items ++ line)) same c.put_data_record.ensures

pub returns-in-4371 : goal.returns-in-4371
returns-in-4371 c =
    let b = c.args.symbol.now.bytes.now in
    let kind : kind_at b ≡ 0x1113 = sym c.raw_kind-kind.ensures ∙ c.in-4371.is in
    let same = ap (λ (b : List ℕ). data_placed (codes "thread") c.args.finder.now (placed_at b)) c.raw_bytes-in-4371.ensures ∙ sym (thread_read c.args.x86 c.args.finder.now b kind) in
    subst (λ (line : List ℕ). OnOk c.put_data_record-in-4371.result (c.put_data_record-in-4371.new.out.items ≡ c.args.out.now.items ++ line)) same c.put_data_record-in-4371.ensures

use Rattle.std.proofs.Common.{◌≡◌, ap, drop, length, min, arith, ℕ, List}
use Rattle.pdb_c.proofs.Putting.{put_front}
use Rattle.pdb_c.proofs.rooms.put_bytes.Goals as goal

pub returns-then-at-room : goal.returns-then-at-room
returns-then-at-room c =
    let b = c.split_at_mut-back.ensures in
    let least : c.min-count.result ≡ min (length (drop c.args.at c.args.room.now)) (length c.args.bytes.now) =
    let same = ap (λ (xs : List ℕ). length xs) b.back in
    omega (arith, same, c.min-count.ensures) in
    rw (b.front, c.copy_from_slice.ensures.after, c.split_at_mut-front.ensures.back, b.back) (put_front c.args.at c.min-count.result c.args.bytes.now c.args.room.now least)

-- What was taken of the bytes still to come, a piece at a time.
use Rattle.std.proofs.Common.{ℕ, ◌+◌, ◌-◌, ◌≤◌, List, ◌++◌, length, take, Option, arith, length-append, length-take}
use Rattle.std.specs.Io.KnownBytes.{Consumes}
use Rattle.std.proofs.KnownBytes.{Consumes-trans}
use Rattle.jtree.specs.Reads.{HasTaken, most_bytes}

pub one_piece_more : (old mid new : Option (List ℕ)) (bytes buffer : List ℕ) (n : ℕ) → Consumes old mid bytes → Consumes mid new (take n buffer)
    → length bytes ≤ most_bytes + 1 → n ≤ most_bytes + 1 - length bytes → HasTaken old new
one_piece_more old mid new bytes buffer n first second short room =
    let piece = take n buffer in
    (bytes ++ piece, Consumes-trans old mid new bytes piece first second, omega (arith, short, room, length-append bytes piece, length-take n buffer))

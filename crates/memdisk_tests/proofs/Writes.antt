-- What a write that is answered shows.
use Rattle.std.proofs.Common.{◌≡◌, ℕ, Bool, true, List, refl}
use Rattle.deals.specs.Disk.{Disk, at, Writing}

pub write_shows : {d : Disk} {p : ℕ} {b : List ℕ} {r : Bool} {e : Disk} → Writing d p b r e → r ≡ true → e.shown ≡ at p b d.shown
write_shows (Writing.done m t w) s = refl
write_shows (Writing.goes m t w) s = cc
write_shows (Writing.gone t) s = cc

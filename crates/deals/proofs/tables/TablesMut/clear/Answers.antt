use Rattle.std.proofs.Common.{◌≡◌, ℕ, ◌<◌, length, get_or, refl, arith}
use Rattle.deals.specs.Promise.{can}
use Rattle.deals.proofs.Clearing.{clear_sound, clear_holds, clear_rest}
use Rattle.deals.proofs.tables.TablesMut.clear.Goals as goal

pub invariant_of-result : goal.invariant_of-result
invariant_of-result c =
    let zeros : (k : ℕ) → k < length c.fill.new.self → get_or c.fill.new.self k 0 ≡ 0 = λ k h. c.fill.ensures.clones k 0 (omega arith) refl in
    record { sound = clear_sound c.args.room.now c.fill.new.self c.requires (omega arith) zeros }

pub returns : goal.returns
returns c =
    let zeros : (k : ℕ) → k < length c.fill.new.self → get_or c.fill.new.self k 0 ≡ 0 = λ k h. c.fill.ensures.clones k 0 (omega arith) refl in
    record { lent = refl; holds = clear_holds c.args.room.now c.fill.new.self c.requires (omega arith) zeros can; rest = clear_rest c.args.room.now c.fill.new.self c.requires (omega arith) zeros }

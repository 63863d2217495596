use Rattle.std.proofs.Common.{◌≡◌, ℕ, ◌<◌, refl, sym, ap, ◌∙◌, is_none, unwrap_or}
use Rattle.pages.specs.Pages.{page_at, pages_in}
use Rattle.memdisk.specs.Memory.{choice_of, chosen}
use Rattle.memdisk.specs.Mixing.{mix_of}
use Rattle.memdisk.proofs.Disks.{backs}
use Rattle.memdisk.proofs.serving.MemDiskPower.back.Goals as goal

pub returns : goal.returns
returns c =
    let m = c.args.self.now in let ws = m.shown.now in let vs = c.leave.new.shown in
    let choice : c.unwrap-choice.result ≡ choice_of m = ap (λ o. unwrap_or o 0) (sym c.unwrap-choice.ensures ∙ c.take.ensures.value) in
    let each : (p : ℕ) → p < pages_in ws → page_at vs p ≡ chosen (choice_of m) ws m.saved.items p =
    λ p h. c.leave.ensures p h ∙ ap (λ s. chosen s ws c.items.result.now p) choice ∙ ap (λ es. chosen (choice_of m) ws es p) c.items.ensures in
    record {
      back = backs m vs c.clear.new.self.items _ _ each c.leave.auto.shown (ap (λ b. b.items) c.clear.ensures) (ap is_none c.take.ensures.after);
      chosen = record { each = each; left = refl; dues = refl };
      room = λ i h. c.scramble.ensures i h ∙ ap (λ s. mix_of s i) choice;
    }

use Rattle.std.proofs.Common.{◌≡◌, suc, ◌+◌, ◌-◌, ◌%◌, ◌/◌, ◌<◌, [], length, get_or, take, sym, ap, ◌∙◌, add-one, arith, rules}
use Rattle.std.proofs.lemmas.List.{take_more}
use Rattle.pages.specs.Pages.{page_at, pages_in}
use Rattle.memdisk.specs.declared.keeping.Entry.{Entry}
use Rattle.memdisk.specs.Entries.{entries_of, page_of}
use Rattle.memdisk.specs.Counts.{Counted}
use Rattle.memdisk.specs.Memory.{picked}
use Rattle.memdisk.specs.Mixing.{mix_of}
use Rattle.memdisk.proofs.Places.{page_put}
use Rattle.memdisk.proofs.Counts.{count_within, count_below, started, older_at, all_at, still_counted}
use Rattle.memdisk.proofs.Entries.{get_d_alone, choice_won, choice_lost}
use Rattle.memdisk.proofs.keeping.leave.Goals as goal
use Rattle.memdisk.proofs.keeping.leave.Goals.{then-i-eq0, else-i-eq0, then-p-pages_in+then-place-pick, else-p-pages_in, else-p-pages_in-via-then-p-pages_in+else-place-pick, else-p-pages_in-via-else-p-pages_in}

pub loop-i-init : goal.loop-i-init
unfolding entries_of
loop-i-init c = record { chosen = λ p h. sym (get_d_alone _ _); counted = λ n. absurd (n (omega arith)) }

pub overflow_add-place : goal.overflow_add-place
overflow_add-place c =
    let es = c.args.entries.now in let i = c.loop-i.i in
    let now : Counted es (i - i % 128) c.if-i-eq0.counts = elim c.if-i-eq0.branch [
      | then-i-eq0 w ↦ rw w.counts-is (started es i w.counts_from-counts.result w.if-i-eq0.true w.counts_from-counts.ensures)
      | else-i-eq0 w ↦ rw w.counts-is (c.loop-i.invariant.counted w.if-i-eq0.false)
    ] in
    omega (arith, older_at es i c.if-i-eq0.counts now c.loop-i-test.true, count_below (page_of es i) es i c.loop-i-test.true)

pub pick-requires : goal.pick-requires
pick-requires c =
    let es = c.args.entries.now in let i = c.loop-i.i in
    let now : Counted es (i - i % 128) c.if-i-eq0.counts = elim c.if-i-eq0.branch [
      | then-i-eq0 w ↦ rw w.counts-is (started es i w.counts_from-counts.result w.if-i-eq0.true w.counts_from-counts.ensures)
      | else-i-eq0 w ↦ rw w.counts-is (c.loop-i.invariant.counted w.if-i-eq0.false)
    ] in
    omega (arith, all_at es i c.if-i-eq0.counts now c.loop-i-test.true, count_within (page_of es i) es)

pub loop-i-preserved : goal.loop-i-preserved
loop-i-preserved c =
    let ws = c.args.shown.now in let vs = c.loop-i.shown in let us = c.if-p-pages_in.shown in
    let es = c.args.entries.now in let i = c.loop-i.i in let older = take i es in
    let e : Entry = get_or es i (record { page = 0; words = [] }) in
    let one = take_more es i (record { page = 0; words = [] }) c.loop-i-test.true in
    let pages : pages_in vs ≡ pages_in ws = ap (λ n. n / 512) c.loop-i.auto.shown in
    let counts = c.if-i-eq0.counts in
    let now : Counted es (i - i % 128) c.if-i-eq0.counts = elim c.if-i-eq0.branch [
      | then-i-eq0 w ↦ rw w.counts-is (started es i w.counts_from-counts.result w.if-i-eq0.true w.counts_from-counts.ensures)
      | else-i-eq0 w ↦ rw w.counts-is (c.loop-i.invariant.counted w.if-i-eq0.false)
    ] in
    let place : suc (length (entries_of e.page older)) ≡ get_or counts.older (i % 128) 0 + 1 = ap suc (sym (older_at es i counts now c.loop-i-test.true)) ∙ sym (add-one _) in
    let pick : mix_of c.args.choice e.page % (get_or counts.all (i % 128) 0 + 1) ≡ picked c.args.choice es e.page = ap (λ n. mix_of c.args.choice e.page % n) (add-one _ ∙ ap suc (all_at es i counts now c.loop-i-test.true)) in
    let won = choice_won (page_at ws) (page_at vs) (page_at us) (pages_in ws) (picked c.args.choice es) older e in
    let lost = choice_lost (page_at ws) (page_at vs) (page_at us) (pages_in ws) (picked c.args.choice es) older e in
    record {
      chosen = elim c.if-p-pages_in.branch [
        | then-p-pages_in+then-place-pick w ↦
            let long : length e.words ≡ 512 = search rules in
            let within : e.page < pages_in vs = omega arith in
            rw one (won (place ∙ w.if-place-pick.true ∙ w.pick.ensures ∙ pick) (ap page_at (w.shown-is ∙ w.put_page.ensures) ∙ page_put e.page vs e.words long within) c.loop-i.invariant.chosen)
        | else-p-pages_in w ↦ rw one (lost (λ l hit. elim w.else-p-pages_in.branch [
          | else-p-pages_in-via-then-p-pages_in+else-place-pick v ↦ v.if-place-pick.false (sym place ∙ hit ∙ sym pick ∙ sym v.pick.ensures)
          | else-p-pages_in-via-else-p-pages_in v ↦ omega arith
        ]) (ap page_at w.shown-is) c.loop-i.invariant.chosen)
      ];
      counted = still_counted es i counts now;
    }

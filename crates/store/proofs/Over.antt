-- Pages written one after the other, and the pages that a batch covers.
use Rattle.std.proofs.Common.{◌≡◌, ℕ, zero, suc, ◌+◌, ◌<◌, ◌≤◌, Bool, true, false, not, T, eqb, List, sym, refl, ap, ◌∙◌, subst, inl, inr, ⊎_elim, add-one, arith}
use mathlib.Core.List.{Memᴰ}
use Rattle.std.proofs.lemmas.Bool.{cases_eq, ne_eqb, eq-eqb, cond-true, cond-false}
use Rattle.store.specs.Medium.{Medium, at, over, Reads, Wrote, WroteAll}

pub at_here : {A : Type 0} (p : ℕ) (x : A) (f : ℕ → A) → at p x f p ≡ x
at_here p x f = cond-true (eqb p p) x (f p) (eq-eqb p p refl)

pub at_other : {A : Type 0} (p q : ℕ) (x : A) (f : ℕ → A) → (q ≡ p → ⊥) → at p x f q ≡ f q
at_other p q x f ne = cond-false (eqb q p) x (f q) (ne_eqb q p ne)

-- two batches that agree show the same
pub over_agree : (n : ℕ) (t u : ℕ → ℕ) (i j : ℕ → List ℕ) (s z : ℕ → List ℕ) (p : ℕ) →
    ((k : ℕ) → k < n → t k ≡ u k) → ((k : ℕ) → k < n → i k ≡ j k) → (((k : ℕ) → k < n → p ≡ u k → ⊥) → s p ≡ z p) →
    over n t i s p ≡ over n u j z p
unfolding over
over_agree zero t u i j s z p ht hi hs = hs (λ k l. absurd (omega arith))
over_agree (suc n) t u i j s z p ht hi hs =
    subst (λ v. at v (i n) (over n t i s) p ≡ at (u n) (j n) (over n u j z) p) (sym (ht n (omega arith)))
    (⊎_elim
    (λ (e : p ≡ u n). cond-true (eqb p (u n)) (i n) (over n t i s p) (eq-eqb p (u n) e) ∙ hi n (omega arith) ∙ sym (cond-true (eqb p (u n)) (j n) (over n u j z p) (eq-eqb p (u n) e)))
    (λ (ne : p ≡ u n → ⊥). cond-false (eqb p (u n)) (i n) (over n t i s p) (ne_eqb p (u n) ne) ∙
    over_agree n t u i j s z p (λ k l. ht k (omega arith)) (λ k l. hi k (omega arith))
    (λ no'. hs (λ k l e. ⊎_elim (λ (q : k ≡ n). ne (e ∙ ap u q)) (λ (q : k ≡ n → ⊥). no' k (omega arith) e) (cases_eq k n)))
    ∙ sym (cond-false (eqb p (u n)) (j n) (over n u j z p) (ne_eqb p (u n) ne)))
    (cases_eq p (u n)))

pub over_miss : (n : ℕ) (t : ℕ → ℕ) (i : ℕ → List ℕ) (s : ℕ → List ℕ) (p : ℕ) → ((k : ℕ) → k < n → p ≡ t k → ⊥) → over n t i s p ≡ s p
unfolding over
over_miss zero t i s p m = refl
over_miss (suc n) t i s p m = at_other (t n) p (i n) (over n t i s) (m n (omega arith)) ∙ over_miss n t i s p (λ k l. m k (omega arith))

pub over_hit : (n : ℕ) (t : ℕ → ℕ) (i : ℕ → List ℕ) (s : ℕ → List ℕ) (k : ℕ) → k < n → ((j : ℕ) → j < n → t k ≡ t j → k ≡ j) → over n t i s (t k) ≡ i k
unfolding over
over_hit zero t i s k l m = absurd (omega arith)
over_hit (suc n) t i s k l m = ⊎_elim
    (λ (e : k ≡ n). subst (λ j. at (t n) (i n) (over n t i s) (t j) ≡ i j) (sym e) (at_here (t n) (i n) (over n t i s)))
    (λ (ne : k ≡ n → ⊥). at_other (t n) (t k) (i n) (over n t i s) (λ e. ne (m n (omega arith) e)) ∙ over_hit n t i s k (omega arith) (λ j q. m j (omega arith)))
    (cases_eq k n)

pub over_same : (n : ℕ) (t u : ℕ → ℕ) (i j s : ℕ → List ℕ) → ((k : ℕ) → k < n → t k ≡ u k) → ((k : ℕ) → k < n → i k ≡ j k) → over n t i s ≡ over n u j s
unfolding over
over_same zero t u i j s ht hi = refl
over_same (suc n) t u i j s ht hi =
    ap (λ p. at p (i n) (over n t i s)) (ht n (omega arith)) ∙ ap (λ b. at (u n) b (over n t i s)) (hi n (omega arith))
    ∙ ap (at (u n) (j n)) (over_same n t u i j s (λ k l. ht k (omega arith)) (λ k l. hi k (omega arith)))

-- a row of writes
dark : (b : Bool) → T (not b) → b ≡ false
dark true z = absurd z
dark false z = refl

pub wrote_none : (t : ℕ → ℕ) (i : ℕ → List ℕ) (d : Medium) → WroteAll 0 0 t i d true d
unfolding over
wrote_none t i d = record { pages = refl; left = omega arith; on = λ z. absurd z; shown = λ _. refl; other = λ q ne x m. m }

one_more : (m n k : ℕ) (t : ℕ → ℕ) (i : ℕ → List ℕ) (d e f : Medium) (ok : Bool) → WroteAll m k t i d true e → Wrote n e (t k) (i k) ok f → WroteAll (m + n) (suc k) t i d ok f
unfolding over
one_more m n k t i d e f ok a w = record {
  pages = w.pages ∙ a.pages;
  left = omega (arith, a.left, w.left);
  on = λ o. w.on ∙ dark ok o;
  shown = λ o. w.shown o ∙ ap (at (t k) (i k)) (a.shown tt);
  other = λ q ne x m. a.other q (λ j l. ne j (omega arith)) x (w.other q (ne k (omega arith)) x m);
}

pub wrote_more : {m n k : ℕ} {t : ℕ → ℕ} {i : ℕ → List ℕ} {d e f : Medium} {p : ℕ} {b : List ℕ} {ok : Bool} →
    WroteAll m k t i d true e → Wrote n e p b ok f → p ≡ t k → b ≡ i k → WroteAll (m + n) (k + 1) t i d ok f
wrote_more {m} {n} {k} {t} {i} {d} {e} {f} {p} {b} {ok} a w tp ib =
    let w1 : Wrote n e (t k) b ok f = subst (λ z. Wrote n e z b ok f) tp w in
    let w2 : Wrote n e (t k) (i k) ok f = subst (λ z. Wrote n e (t k) z ok f) ib w1 in
    subst (λ l. WroteAll (m + n) l t i d ok f) (sym (add-one k)) (one_more m n k t i d e f ok a w2)

-- a row that was cut is a part of any longer one
pub wrote_part : {m l j n : ℕ} {t : ℕ → ℕ} {i : ℕ → List ℕ} {d e : Medium} → m ≤ l → j ≤ n → WroteAll m j t i d false e → WroteAll l n t i d false e
wrote_part a b w = record { pages = w.pages; left = omega (arith, w.left); on = w.on; shown = λ z. absurd z; other = λ q ne x m. w.other q (λ k o. ne k (omega arith)) x m }

pub wrote_all : {m l j n : ℕ} {t : ℕ → ℕ} {i : ℕ → List ℕ} {d e : Medium} {ok : Bool} → m ≤ l → j ≤ n → n ≤ j → WroteAll m j t i d ok e → WroteAll l n t i d ok e
wrote_all {m} {l} {j} {n} {t} {i} {d} {e} {ok} c a b w = let q : j ≡ n = omega arith in subst (λ z. WroteAll l z t i d ok e) q
    (record { pages = w.pages; left = omega (arith, w.left); on = w.on; shown = w.shown; other = w.other })

-- a read, and a write of what was read
pub wrote_copy : {d e f : Medium} {p q : ℕ} {b : List ℕ} {ok : Bool} → Reads d p b true e → Wrote 1 e q b ok f → Wrote 2 d q (d.shown p) ok f
wrote_copy {d} {e} {f} {p} {q} {b} {ok} x y = subst (λ z. Wrote 2 d q z ok f) (x.got tt) (record {
  pages = y.pages ∙ x.pages;
  left = omega (arith, x.left, y.left);
  on = y.on;
  shown = λ o. y.shown o ∙ ap (at q b) x.shown;
  here = λ l i. ⊎_elim inl (λ (m : Memᴰ l (e.may q)). inr (subst (λ z. Memᴰ l (z q)) x.may m)) (y.here l i);
  other = λ r ne l i. subst (λ z. Memᴰ l (z r)) x.may (y.other r ne l i);
})

pub wrote_not : {d e : Medium} {p : ℕ} {c : List ℕ} (q : ℕ) (b : List ℕ) → Reads d p c false e → Wrote 2 d q b false e
wrote_not {d} {e} q b x = record {
  pages = x.pages;
  left = omega (arith, x.left);
  on = x.on;
  shown = λ z. absurd z;
  here = λ l i. inr (subst (λ z. Memᴰ l (z q)) x.may i);
  other = λ r ne l i. subst (λ z. Memᴰ l (z r)) x.may i;
}

pub wrote_same : {m n : ℕ} {t u : ℕ → ℕ} {i j : ℕ → List ℕ} {d e : Medium} {ok : Bool} → ((k : ℕ) → k < n → t k ≡ u k) → ((k : ℕ) → k < n → i k ≡ j k) → WroteAll m n t i d ok e → WroteAll m n u j d ok e
wrote_same {m} {n} {t} {u} {i} {j} {d} {e} {ok} ht hi w = record {
  pages = w.pages;
  left = w.left;
  on = w.on;
  shown = λ o. w.shown o ∙ over_same n t u i j d.shown ht hi;
  other = λ q ne. w.other q (λ k l z. ne k l (z ∙ ht k l));
}

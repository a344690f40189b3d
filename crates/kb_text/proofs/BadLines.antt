-- A text has at most one first bad line.
use Rattle.std.proofs.Common.{ℕ, zero, suc, ◌-◌, ◌≤◌, ◌<◌, ◌==◌, ◌≡◌, ◌∙◌, sym, refl, ap, arith, ⊎_elim, List, [], ◌∷◌, Bool, cond, Some, None, Option}
use Rattle.std.specs.Prelude.{option_map}
use Rattle.std.proofs.lemmas.Bool.{cases_order}
use Rattle.std.proofs.lemmas.Bool.Decides.{nat_tests}
use Rattle.kb_text.specs.Lines.{first_lines, Begins, IsBadLine}
use Rattle.kb_text.proofs.LineFronts.{first_lines-none}

-- the first m lines of the text are those of the front
record HasFewer (text front : List ℕ) (m : ℕ) : Type 0 where
  lines : List ℕ
  of_text : first_lines text m ≡ Some lines
  of_front : first_lines front m ≡ Some lines

behind_first : (b : ℕ) (read : Option (List ℕ)) (front : List ℕ) → option_map (λ (f : List ℕ). b ∷ f) read ≡ Some front → (f : List ℕ) × (read ≡ Some f) × (b ∷ f ≡ front)
behind_first b None front e = absurd (cc)
behind_first b (Some f) front e = (f, refl, cc)

-- fewer lines of a text are those of its first lines
fewer_lines : (text : List ℕ) (n m : ℕ) (front : List ℕ) → m ≤ n → first_lines text n ≡ Some front → HasFewer text front m
fewer_lines text n zero front l e = record { lines = []; of_text = first_lines-none text; of_front = first_lines-none front }
fewer_lines text zero (suc m) front l e = absurd (omega (arith, l))
fewer_lines [] (suc n) (suc m) front l e = absurd (cc)
fewer_lines (b ∷ text) (suc n) (suc m) front l e =
    let r = behind_first b (first_lines text (cond (b == 10) n (suc n))) front e in
    let h = fewer_lines text (cond (b == 10) n (suc n)) (cond (b == 10) m (suc m)) r.0 (below (b == 10)) r.1 in record {
      lines = b ∷ h.lines;
      of_text = ap (option_map (λ (f : List ℕ). b ∷ f)) h.of_text;
      of_front = ap (λ (x : List ℕ). first_lines x (suc m)) (sym r.2) ∙ ap (option_map (λ (f : List ℕ). b ∷ f)) h.of_front;
    }
  where
    below : (v : Bool) → cond v m (suc m) ≤ cond v n (suc n)
    below v = grind (arith, nat_tests)

fewer_begin : (IsOfForm : List ℕ → Type 0) (text : List ℕ) (n m : ℕ) → m ≤ n → Begins IsOfForm text n → Begins IsOfForm text m
fewer_begin IsOfForm text n m l (whole, front, form, of_whole, of_text) =
    let p = fewer_lines whole n m front l of_whole in
    let q = fewer_lines text n m front l of_text in
    (whole, p.lines, form, p.of_text, q.of_text ∙ sym q.of_front ∙ p.of_front)

not_before : (IsOfForm : List ℕ → Type 0) (text : List ℕ) (m n : ℕ) → IsBadLine IsOfForm text m → IsBadLine IsOfForm text n → ¬ (m < n)
not_before IsOfForm text m n a b l = a.with_it (fewer_begin IsOfForm text (n - 1) m (omega (arith, l)) b.before)

pub one_bad_line : (IsOfForm : List ℕ → Type 0) (text : List ℕ) (m n : ℕ) → IsBadLine IsOfForm text m → IsBadLine IsOfForm text n → m ≡ n
one_bad_line IsOfForm text m n a b =
    ⊎_elim (λ e. e) (λ d. absurd (⊎_elim (λ l. not_before IsOfForm text m n a b l) (λ l. not_before IsOfForm text n m b a l) d)) (cases_order m n)

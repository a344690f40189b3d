-- Rounds have one journal.
use Rattle.std.proofs.Common.{ℕ, zero, suc, ◌+◌, ◌<◌, ◌≡◌, ◌⊎◌, inl, inr, refl, sym, ap, ap₂, ◌∙◌, arith, List, [], ◌∷◌, length, Option, Some, None, ⊎_elim}
use Rattle.std.specs.Prelude.{IsSome}
use Rattle.std.specs.Option.{option_map_or}
use Rattle.kb_lemmas.proofs.Options.{none_some}
use Rattle.kb_term.specs.Signature.{Problem, IsWithinLimits}
use Rattle.kb_term.proofs.Subtrees.{some_value}
use Rattle.kb_node.specs.declared.job.Job.{Job}
use Rattle.mkb_model.specs.Plain.{Plain}
use Rattle.mkb_model.specs.Verdicts.{verdict}
use Rattle.mkb_model.specs.Journals.{Moment, Move, takes, ends, gives_back, halts, move_of, moves_of, tickets, Follows, IsRun, IsFirstJob, journal_of}
use Rattle.mkb_model.specs.declared.entry.Entry.{Entry}
use Rattle.mkb_model.specs.declared.entry.Entry.TheVariants.{Take, Commit, Drop, Abandon, Halt}
use Rattle.mkb_model.specs.declared.settings.Settings.{Settings}
use Rattle.mkb_model.proofs.runs.Selections.{legal-possible}
use Rattle.mkb_model.proofs.journals.MovesDecide.{moves_decide}
use Rattle.mkb_rounds.specs.Rounds.{GoByRounds, IsRounds, first_number, next_job, round_move}

-- where a round goes on no verdict stands
pub undecided : (past : List Moment) (b : Plain) (e : Entry) (c : Plain) → Follows IsFirstJob past b e c → move_of e ≡ round_move past b → verdict b ≡ None
undecided past b (Take w t j) c f h = f.no_verdict
undecided past b (Commit w t x) c f h = f.finishing.no_verdict
undecided past b (Drop w t p) c f h = f.finishing.no_verdict
undecided past b (Abandon w t) c f h = go (next_job past b) h
  where
    go : (o : Option Job) → gives_back t ≡ option_map_or (takes 1 (tickets past + 1)) o (ends (first_number b.flight)) → verdict b ≡ None
    go None e = absurd (cc)
    go (Some j) e = absurd (cc)
undecided past b Halt c f h = go (next_job past b) h
  where
    go : (o : Option Job) → halts ≡ option_map_or (takes 1 (tickets past + 1)) o (ends (first_number b.flight)) → verdict b ≡ None
    go None e = absurd (cc)
    go (Some j) e = absurd (cc)

three_ways : (m n : ℕ) → (m ≡ n) ⊎ ((m < n) ⊎ (n < m))
three_ways zero zero = inl refl
three_ways zero (suc n) = inr (inl (omega arith))
three_ways (suc m) zero = inr (inr (omega arith))
three_ways (suc m) (suc n) = ⊎_elim (λ e. inl (ap suc e)) (⊎_elim (λ l. inr (inl (omega (arith, l)))) (λ l. inr (inr (omega (arith, l))))) (three_ways m n)

module _ (P : Problem) (n : Settings) (within : IsWithinLimits P) where
  -- two runs by rounds of one length have the same moves
  same_moves : (ms ns : List Moment) (c d : Plain) → IsRun P n ms c → IsRun P n ns d → GoByRounds ms → GoByRounds ns → length ms ≡ length ns → moves_of ms ≡ moves_of ns
  same_moves [] [] c d run other g h l = refl
  same_moves [] (k ∷ ns) c d run other g h l = absurd (omega (arith, l))
  same_moves (m ∷ ms) [] c d run other g h l = absurd (omega (arith, l))
  same_moves (m ∷ ms) (k ∷ ns) c d (run, f) (other, e) (g, x) (h, y) l =
      let rest : moves_of ms ≡ moves_of ns = same_moves ms ns m.board k.board run other g h (omega (arith, l)) in
      let r = moves_decide P n within ms ns m.board k.board (legal-possible P n ms m.board run) (legal-possible P n ns k.board other) rest in
      ap₂ {C = List Move} (λ (z : Move) (zs : List Move). z ∷ zs) (x ∙ ap₂ round_move r.0 r.1 ∙ sym y) rest

  -- so they are one run
  same_run : (ms ns : List Moment) (c d : Plain) → IsRun P n ms c → IsRun P n ns d → GoByRounds ms → GoByRounds ns → length ms ≡ length ns → (ms ≡ ns) × (c ≡ d)
  same_run ms ns c d run other g h l = moves_decide P n within ms ns c d (legal-possible P n ms c run) (legal-possible P n ns d other) (same_moves ms ns c d run other g h l)

  -- none goes on beyond a verdict
  no_longer : {Q : Type 0} (ms ns : List Moment) (c d : Plain) → IsRun P n ms c → IsRun P n ns d → GoByRounds ms → GoByRounds ns → IsSome (verdict d) → length ns < length ms → Q
  no_longer [] ns c d run other g h v l = absurd (omega (arith, l))
  no_longer (m ∷ ms) ns c d (run, f) other (g, x) h v l = ⊎_elim
      (λ e. let r = same_run ms ns m.board d run other g h e in none_some (sym (ap verdict (sym r.1) ∙ undecided ms m.board m.entry c f x) ∙ (some_value (verdict d) v).1))
      (⊎_elim (λ s. absurd (omega (arith, l, s))) (λ s. no_longer ms ns m.board d run other g h v s))
      (three_ways (length ms) (length ns))

-- rounds have one journal, and one board at its end
pub rounds_once : (P : Problem) (n : Settings) (J K : List Entry) (b c : Plain) → IsWithinLimits P → IsRounds P n J b → IsRounds P n K c → (J ≡ K) × (b ≡ c)
rounds_once P n J K b c within x y = ⊎_elim
    (λ e. let r = same_run P n within x.moments y.moments b c x.run y.run x.by_rounds y.by_rounds e in (sym x.journal ∙ ap journal_of r.0 ∙ y.journal, r.1))
    (⊎_elim
    (λ l. no_longer P n within y.moments x.moments c b y.run x.run y.by_rounds x.by_rounds x.ended l)
    (λ l. no_longer P n within x.moments y.moments b c x.run y.run x.by_rounds y.by_rounds y.ended l))
    (three_ways (length x.moments) (length y.moments))

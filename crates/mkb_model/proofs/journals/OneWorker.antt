-- The journal of one worker alone is one.
use Rattle.std.proofs.Common.{ℕ, ◌≡◌, ◌⊎◌, inl, inr, refl, sym, ap, ap₂, ◌∙◌, subst, arith, List, [], ◌∷◌, ◌++◌, true, ◌&&◌, ◌==◌, ⊎_elim}
use Rattle.std.specs.Prelude.{IsSome}
use Rattle.std.proofs.lemmas.Bool.{eqb-true}
use Rattle.kb_lemmas.proofs.Options.{some_is, none_some}
use Rattle.kb_lemmas.proofs.Booleans.{and_gives_left, and_gives_right}
use Rattle.kb_term.specs.Signature.{Problem, IsWithinLimits}
use Rattle.kb_term.proofs.Subtrees.{some_value}
use Rattle.kb_node.specs.declared.job.Job.{Job}
use Rattle.mkb_model.specs.Plain.{Plain}
use Rattle.mkb_model.specs.Verdicts.{verdict}
use Rattle.mkb_model.specs.Journals.{Moment, takes, ends, move_of, Follows, IsRun, IsFirstJob, IsTaking, opening, journal_of, is_end_of, takes_in_turn, Alone}
use Rattle.mkb_model.specs.declared.entry.Entry.{Entry}
use Rattle.mkb_model.specs.declared.entry.Entry.TheVariants.{Take, Commit, Drop, Abandon, Halt}
use Rattle.mkb_model.proofs.Lists.{clash}
use Rattle.mkb_model.proofs.runs.Selections.{legal-possible}
use Rattle.mkb_model.proofs.journals.MovesDecide.{follow_one}
use Rattle.mkb_model.specs.declared.settings.Settings.{Settings}

-- ---- a run goes on by entries

-- from the board after the first moments these entries lead to the other moments and their board
abbrev Goes : List Moment → Plain → List Entry → List Moment → Plain → Type 0
Goes past b [] ms c = (ms ≡ past) × (c ≡ b)
Goes past b (e ∷ J) ms c = (d : Plain) × Follows IsFirstJob past b e d × Goes (record { board = b; entry = e } ∷ past) d J ms c

goes_on : (past : List Moment) (b : Plain) (J : List Entry) (ms : List Moment) (d : Plain) (e : Entry) (c : Plain) → Goes past b J ms d → Follows IsFirstJob ms d e c → Goes past b (J ++ e ∷ []) (record { board = d; entry = e } ∷ ms) c
goes_on past b [] ms d e c g f = (
  c,
  subst {A = List Moment} (λ zs. Follows IsFirstJob zs b e c) g.0 (subst {A = Plain} (λ z. Follows IsFirstJob ms z e c) g.1 f),
  (ap₂ {C = List Moment} (λ (z : Plain) (zs : List Moment). record { board = z; entry = e } ∷ zs) g.1 g.0, refl),
)
goes_on past b (x ∷ J) ms d e c g f = (g.0, g.1, goes_on (record { board = b; entry = x } ∷ past) g.0 J ms d e c g.2 f)

goes_run : (P : Problem) (n : Settings) (ms : List Moment) (c : Plain) → IsRun P n ms c → Goes [] (opening P n) (journal_of ms) ms c
goes_run P n [] c run = (refl, run)
goes_run P n (m ∷ ms) c (run, f) = goes_on [] (opening P n) (journal_of ms) ms m.board m.entry c (goes_run P n ms m.board run) f

-- ---- turns

-- the journal begins with a take by worker 1 and the end of its ticket
record Turn (J : List Entry) : Type 0 where
  ticket : ℕ
  job : Job
  end : Entry
  rest : List Entry
  parts : J ≡ Take 1 ticket job ∷ end ∷ rest
  ended : is_end_of ticket end ≡ true
  in_turn : takes_in_turn rest ≡ true

is_one : (w : ℕ) → (w == 1) ≡ true → w ≡ 1
is_one w h = grind arith

turned : (J : List Entry) → takes_in_turn J ≡ true → (J ≡ []) ⊎ Turn J
turned [] h = inl refl
turned (Take w t j ∷ e ∷ J) h = inr (record {
  ticket = t;
  job = j;
  end = e;
  rest = J;
  parts = ap (λ (v : ℕ). Take v t j ∷ e ∷ J) (is_one w (and_gives_left (w == 1) (is_end_of t e && takes_in_turn J) h));
  ended = and_gives_left (is_end_of t e) (takes_in_turn J) (and_gives_right (w == 1) (is_end_of t e && takes_in_turn J) h);
  in_turn = and_gives_right (is_end_of t e) (takes_in_turn J) (and_gives_right (w == 1) (is_end_of t e && takes_in_turn J) h);
})
turned (Take w t j ∷ []) h = clash h refl
turned (Commit w t e ∷ J) h = clash h refl
turned (Drop w t p ∷ J) h = clash h refl
turned (Abandon w t ∷ J) h = clash h refl
turned (Halt ∷ J) h = clash h refl

end_move : (t : ℕ) (e : Entry) → is_end_of t e ≡ true → move_of e ≡ ends t
end_move t (Commit w s e) h = ap ends (eqb-true s t h)
end_move t (Drop w s p) h = ap ends (eqb-true s t h)
end_move t (Take w s j) h = clash h refl
end_move t (Abandon w s) h = clash h refl
end_move t Halt h = clash h refl

-- no job is taken where a verdict stands
none_taken : {A : Type 0} (past : List Moment) (b : Plain) (w t : ℕ) (j : Job) (c d : Plain) → IsSome (verdict c) → c ≡ b → IsTaking IsFirstJob past b w t j d → A
none_taken past b w t j c d v e f = none_some (sym (ap verdict e ∙ f.no_verdict) ∙ (some_value (verdict c) v).1)

module _ (P : Problem) (n : Settings) (within : IsWithinLimits P) where
  -- two entries of one move are one
  step_one : (past : List Moment) (b : Plain) → IsRun P n past b → (e x : Entry) (c d : Plain) → Follows IsFirstJob past b e c → Follows IsFirstJob past b x d → move_of e ≡ move_of x → (e ≡ x) × (c ≡ d)
  step_one past b run e x c d f g h = follow_one P n within past b (legal-possible P n past b run) e x c d
      (legal-possible P n (record { board = b; entry = e } ∷ past) c (run, f)).1
      (legal-possible P n (record { board = b; entry = x } ∷ past) d (run, g)).1 h

  -- from one board two journals that are in turn up to a verdict are one
  one_turn : (J K : List Entry) (past : List Moment) (b : Plain) → IsRun P n past b → takes_in_turn J ≡ true → takes_in_turn K ≡ true → (ms ns : List Moment) (c d : Plain) → Goes past b J ms c → Goes past b K ns d → IsSome (verdict c) → IsSome (verdict d) → (J ≡ K) × (c ≡ d)
  one_turn [] K past b run hj hk ms ns c d g k vc vd = ⊎_elim
      (λ e. let h = subst {A = List Entry} (λ z. Goes past b z ns d) e k in (sym e, g.1 ∙ sym h.1))
      (λ u. let h = subst {A = List Entry} (λ z. Goes past b z ns d) u.parts k in none_taken past b 1 u.ticket u.job c h.0 vc g.1 h.1)
      (turned K hk)
  one_turn (Take w t j ∷ e ∷ J) K past b run hj hk ms ns c d g k vc vd = ⊎_elim
      (λ q. let h = subst {A = List Entry} (λ z. Goes past b z ns d) q k in none_taken past b w t j d g.0 vd h.1 g.1)
      (λ u. at u (subst {A = List Entry} (λ z. Goes past b z ns d) u.parts k) (λ L qs a r hl x y. one_turn J L qs a r rest hl ms ns c d x y vc vd))
      (turned K hk)
    where
      is_ended : is_end_of t e ≡ true
      is_ended = and_gives_left (is_end_of t e) (takes_in_turn J) (and_gives_right (w == 1) (is_end_of t e && takes_in_turn J) hj)

      rest : takes_in_turn J ≡ true
      rest = and_gives_right (is_end_of t e) (takes_in_turn J) (and_gives_right (w == 1) (is_end_of t e && takes_in_turn J) hj)

      taken : List Moment
      taken = record { board = b; entry = Take w t j } ∷ past

      -- the one take, the end of its ticket, and the rest
      at : (u : Turn K) → Goes past b (Take 1 u.ticket u.job ∷ u.end ∷ u.rest) ns d
          → ((L : List Entry) (qs : List Moment) (a : Plain) → IsRun P n qs a → takes_in_turn L ≡ true → Goes qs a J ms c → Goes qs a L ns d → (J ≡ L) × (c ≡ d))
          → (Take w t j ∷ e ∷ J ≡ K) × (c ≡ d)
      at u h ih = (ap₂ {C = List Entry} (λ (x : Entry) (y : Entry). x ∷ y ∷ J) first.0 second.0 ∙ ap (λ (z : List Entry). Take 1 u.ticket u.job ∷ u.end ∷ z) third.0 ∙ sym u.parts, third.1)
        where
          numbers : t ≡ u.ticket
          numbers = g.1.next_number ∙ sym h.1.next_number

          first : (Take w t j ≡ Take 1 u.ticket u.job) × (g.0 ≡ h.0)
          first = step_one past b run (Take w t j) (Take 1 u.ticket u.job) g.0 h.0 g.1 h.1
              (ap (λ v. takes v t j) (is_one w (and_gives_left (w == 1) (is_end_of t e && takes_in_turn J) hj)) ∙ ap₂ (λ m i. takes 1 m i) numbers (some_is (sym g.1.picked ∙ h.1.picked)))

          later : Goes taken g.0 (u.end ∷ u.rest) ns d
          later = subst {A = Plain} (λ z. Goes taken z (u.end ∷ u.rest) ns d) (sym first.1) (subst {A = Entry} (λ x. Goes (record { board = b; entry = x } ∷ past) h.0 (u.end ∷ u.rest) ns d) (sym first.0) h.2)

          second : (e ≡ u.end) × (g.2.0 ≡ later.0)
          second = step_one taken g.0 (run, g.1) e u.end g.2.0 later.0 g.2.1 later.1 (end_move t e is_ended ∙ ap ends numbers ∙ sym (end_move u.ticket u.end u.ended))

          third : (J ≡ u.rest) × (c ≡ d)
          third = ih u.rest (record { board = g.0; entry = e } ∷ taken) g.2.0 ((run, g.1), g.2.1) u.in_turn g.2.2
              (subst {A = Plain} (λ z. Goes (record { board = g.0; entry = e } ∷ taken) z u.rest ns d) (sym second.1) (subst {A = Entry} (λ x. Goes (record { board = g.0; entry = x } ∷ taken) later.0 u.rest ns d) (sym second.0) later.2))
  one_turn (Take w t j ∷ []) K past b run hj hk ms ns c d g k vc vd = clash hj refl
  one_turn (Commit w t e ∷ J) K past b run hj hk ms ns c d g k vc vd = clash hj refl
  one_turn (Drop w t p ∷ J) K past b run hj hk ms ns c d g k vc vd = clash hj refl
  one_turn (Abandon w t ∷ J) K past b run hj hk ms ns c d g k vc vd = clash hj refl
  one_turn (Halt ∷ J) K past b run hj hk ms ns c d g k vc vd = clash hj refl

goes_alone : (P : Problem) (n : Settings) (J : List Entry) (c : Plain) → (x : Alone P n J c) → Goes [] (opening P n) J x.legal.0 c
goes_alone P n J c x = subst {A = List Entry} (λ z. Goes [] (opening P n) z x.legal.0 c) x.legal.1 (goes_run P n x.legal.0 c x.legal.2)

-- one worker has one journal, and one board at its end
pub alone_once : (P : Problem) (n : Settings) (J K : List Entry) (b c : Plain) → IsWithinLimits P → Alone P n J b → Alone P n K c → (J ≡ K) × (b ≡ c)
alone_once P n J K b c within x y = one_turn P n within J K [] (opening P n) refl x.in_turn y.in_turn x.legal.0 y.legal.0 b c (goes_alone P n J b x) (goes_alone P n K c y) x.ended y.ended

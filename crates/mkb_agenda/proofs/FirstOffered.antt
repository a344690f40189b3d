-- What the agenda of a board offers first is the first job of the board.
use Rattle.std.proofs.Common.{ℕ, ◌<◌, ◌≡◌, inl, inr, refl, sym, ap, ap₂, ◌∙◌, subst, arith, List, [], ◌∷◌, ◌++◌, length, Contains, false, not, Option, Some, None, Ordering, Less, Equal, Greater, nat_cmp, ⊎_elim}
use Rattle.std.specs.Ordering.{ordering_then, MatchOrdering}
use Rattle.std.specs.Cmp.Lexicographic.{slice_cmp}
use Rattle.std.proofs.lemmas.Cmp.{ranked}
use Rattle.std.proofs.lemmas.List.Elements.{Contains-append_cases}
use Rattle.kb_lemmas.proofs.Membership.{none_in, contains_flat_map, only_member}
use Rattle.kb_lemmas.proofs.Booleans.{and_gives_left}
use Rattle.kb_linear.specs.Numbers.{IsLess}
use Rattle.kb_label.specs.Names.{Name, has, name_cmp}
use Rattle.kb_label.specs.NameOrder.{name_cmp-equal}
use Rattle.kb_node.specs.declared.job.Job.{Job}
use Rattle.kb_node.specs.declared.job.Job.TheVariants.{Reduce, Orient, Overlap, Close}
use Rattle.mkb_model.specs.Jobs.{process_of, kind_number, job_numbers, is_free}
use Rattle.mkb_model.specs.Plain.{Plain, cost, weight, is_over}
use Rattle.mkb_model.specs.DueJobs.{work_of, is_due, due_jobs, due_jobs_of, flying_jobs, awake, free_jobs, first_job}
use Rattle.mkb_model.proofs.Lists.{not_of_false, filter_in, in_filter}
use Rattle.mkb_model.proofs.runs.Endings.{in_has}
use Rattle.mkb_model.proofs.tickets.InFlight.{free_due, due_working}
use Rattle.mkb_moves.specs.Order.{IsLessOr, IsNameBeforeOr, IsBefore, MayBeTaken}
use Rattle.mkb_moves.proofs.FirstJob.{first_least, no_first, free_may}
use Rattle.mkb_pick.specs.Jobs.{Weighed, weighed_cmp}
use Rattle.mkb_pick.specs.Listings.{Listed, IsOffered, IsLeastOffered}
use Rattle.mkb_agenda.specs.Agendas.{IsDueJob, IsAgendaOf}
use Rattle.mkb_agenda.proofs.DueJobs.{work_has}

-- ---- what comparing tells

less_or : (m n : ℕ) (r : Ordering) (P : Type 0) → (m ≡ n → r ≡ Less → P) → ordering_then (nat_cmp m n) r ≡ Less → IsLessOr m n P
less_or m n r P f h = go (nat_cmp m n) (ranked m n (nat_cmp m n) refl) h
  where
    go : (o : Ordering) → MatchOrdering o (m < n) (m ≡ n) (n < m) → ordering_then o r ≡ Less → IsLessOr m n P
    go Less k e = inl k
    go Equal k e = inr (k, f k e)
    go Greater k e = absurd (cc)

name_or : (p q : Name) (r : Ordering) (P : Type 0) → (r ≡ Less → P) → ordering_then (name_cmp p q) r ≡ Less → IsNameBeforeOr p q P
name_or p q r P f h = go (name_cmp p q) refl h
  where
    go : (o : Ordering) → name_cmp p q ≡ o → ordering_then o r ≡ Less → IsNameBeforeOr p q P
    go Less k e = inl k
    go Equal k e = inr (name_cmp-equal p q k, f e)
    go Greater k e = absurd (cc)

numbers_less : (ns ms : List ℕ) → length ns ≡ length ms → slice_cmp nat_cmp ns ms ≡ Less → IsLess ns ms
numbers_less [] [] e h = absurd (cc)
numbers_less [] (m ∷ ms) e h = absurd (omega (arith, e))
numbers_less (n ∷ ns) [] e h = absurd (cc)
numbers_less (n ∷ ns) (m ∷ ms) e h = less_or n m (slice_cmp nat_cmp ns ms) (IsLess ns ms) (λ _ k. numbers_less ns ms (omega (arith, e)) k) h

-- jobs of one kind name as many numbers
same_length : (i j : Job) → kind_number i ≡ kind_number j → length (job_numbers i) ≡ length (job_numbers j)
same_length (Reduce p n) (Reduce q m) e = refl
same_length (Orient p n) (Orient q m) e = refl
same_length (Overlap p a c) (Overlap q d f) e = refl
same_length (Close p) (Close q) e = refl
same_length i j e = absurd (omega (arith, e))

module _ (b : Plain) where
  -- the job with its weight and the cost of its process
  abbrev weighed : Job → Weighed
  weighed j = record { cost = cost b (process_of j); weight = weight b j; job = j }

  less_before : (i j : Job) → weighed_cmp (weighed i) (weighed j) ≡ Less → IsBefore b i j
  less_before i j = less_or (cost b (process_of i)) (cost b (process_of j)) _ _ (λ _.
      name_or (process_of i) (process_of j) _ _
      (less_or (kind_number i) (kind_number j) _ _ (λ k.
      less_or (weight b i) (weight b j) (slice_cmp nat_cmp (job_numbers i) (job_numbers j)) (IsLess (job_numbers i) (job_numbers j)) (λ _. numbers_less (job_numbers i) (job_numbers j) (same_length i j k)))))

  -- ---- what is offered

  process_in : (p : Name) (j : Job) → Contains (work_of b p ++ Close p ∷ []) j → process_of j ≡ p
  process_in p j c = ⊎_elim (λ d. (work_has b p j d).0) (λ d. sym (ap process_of (only_member (Close p) j d))) (Contains-append_cases (work_of b p) (Close p ∷ []) j c)

  module _ (ps : List Listed) (agenda : IsAgendaOf b ps) where
    -- each free job is offered
    free_offered : (j : Job) → Contains (free_jobs b) j → IsOffered ps (flying_jobs b) (weighed j)
    free_offered j c = (
      (agenda.processes (process_of j) (cost b (process_of j)) false).1 (due_working b j may.due, refl, sym may.awake),
      (agenda.jobs j (weight b j)).1 (due, refl),
      (filter_in (is_free (flying_jobs b)) (due_jobs b) j c).1,
    )
      where
        may : MayBeTaken b j
        may = free_may b j c

        due : IsDueJob b j
        due = let f = free_due b j c in in_filter (is_due b) (work_of b (process_of j) ++ Close (process_of j) ∷ []) j (subst {A = Name} (λ p. Contains (work_of b p ++ Close p ∷ []) j) (sym (process_in f.0 j f.2)) f.2) f.3

    -- what is offered is a free job
    offered_free : (w : Weighed) → IsOffered ps (flying_jobs b) w → Contains (free_jobs b) w.job
    offered_free w h =
        let p = (agenda.processes (process_of w.job) w.cost false).0 h.0 in
        let lives = and_gives_left (has b.living (process_of w.job)) (not (is_over b (process_of w.job))) p.0 in
        let up : Contains (awake b) (process_of w.job) = in_filter (λ q. not (has b.asleep q)) b.living (process_of w.job) (in_has b.living (process_of w.job) lives) (not_of_false (sym p.2)) in
        in_filter (is_free (flying_jobs b)) (due_jobs b) w.job (contains_flat_map (due_jobs_of b) (awake b) (process_of w.job) w.job up ((agenda.jobs w.job w.weight).0 h.1).0) h.2

    -- with its weight and the cost of its process
    offered_is : (w : Weighed) → IsOffered ps (flying_jobs b) w → w ≡ weighed w.job
    offered_is w h = ap₂ (λ (c n : ℕ). record { cost = c; weight = n; job = w.job }) ((agenda.processes (process_of w.job) w.cost false).0 h.0).1 ((agenda.jobs w.job w.weight).0 h.1).1

    pub first_offered : (o : Option Job) → IsLeastOffered ps (flying_jobs b) o → o ≡ first_job b
    first_offered None none = go (first_job b) refl
      where
        go : (f : Option Job) → first_job b ≡ f → None ≡ f
        go None e = refl
        go (Some f) e = absurd (none (weighed f) (free_offered f (first_least b f e).0))
    first_offered (Some j) (w, same, offered, least) = go (first_job b) refl
      where
        free : Contains (free_jobs b) w.job
        free = offered_free w offered

        go : (f : Option Job) → first_job b ≡ f → Some j ≡ f
        go None e = none_in (subst {A = List Job} (λ js. Contains js w.job) (no_first b e) free)
        go (Some f) e =
            let first = first_least b f e in
            ⊎_elim (λ i. ap Some (sym same ∙ sym (ap (λ (z : Weighed). z.job) i)))
            (λ l. absurd ((first.1 w.job free).1 (less_before w.job f (subst {A = Weighed} (λ z. weighed_cmp z (weighed f) ≡ Less) (offered_is w offered) l))))
            (least (weighed f) (free_offered f first.0))

-- Who sleeps: a label; at most 64 processes are active and awake, and where fewer are, no active one sleeps.
use Rattle.std.proofs.Common.{ℕ, zero, suc, ◌+◌, ◌-◌, ◌≤◌, ◌≡◌, ◌⊎◌, inl, inr, refl, sym, ap, ◌∙◌, subst, arith, List, [], ◌∷◌, filter, length, cond, Bool, true, false, not, ◌&&◌, ◌||◌, Option, Some, None, ⊎_elim}
use Rattle.std.specs.Option.{option_map_or}
use Rattle.std.specs.Fn.{iterate}
use Rattle.std.proofs.lemmas.Bool.{and_from}
use Rattle.kb_lemmas.proofs.Lists.{filter_none_of}
use Rattle.kb_lemmas.proofs.Booleans.{and_gives_left, and_gives_right}
use Rattle.kb_term.specs.Signature.{Problem}
use Rattle.kb_label.specs.Names.{Name, has, name_eq, add, minus, IsInNameOrder}
use Rattle.kb_label.proofs.Members.{name_eq-eq, has-filter, has-add, has-minus}
use Rattle.kb_label.proofs.Ordered.{ordered-add, ordered-filter, length-add, length-without}
use Rattle.kb_label.proofs.Sets.{same_names}
use Rattle.mkb_model.specs.Jobs.{least, greatest}
use Rattle.mkb_model.specs.Plain.{Plain}
use Rattle.mkb_model.specs.Sleeping.{most_awake, is_active, process_cmp, working, waiting, with_one_asleep, with_one_awake, rested, settled, settle}
use Rattle.mkb_model.specs.Invariants.{SleepersWait}
use Rattle.mkb_model.specs.Journals.{opening}
use Rattle.mkb_model.specs.declared.settings.Settings.{Settings}
use Rattle.mkb_model.proofs.Lists.{clash, false_unless}
use Rattle.mkb_model.proofs.labels.NameLists.{IsLabelOf, label-filter, label-add}
use Rattle.mkb_model.proofs.runs.Selections.{least-in, least-none}
use Rattle.mkb_model.proofs.runs.Endings.{has_in}

-- ---- tests

without : (a e h v : Bool) → (a && (not (e || h) && v)) ≡ (not (e || false) && (a && (not h && v)))
without true true h v = refl
without false true h v = refl
without a false h v = refl

-- ---- the active ones that are awake

pub in_working : (b : Plain) (l : List Name) (q : Name) → has (working b l) q ≡ (is_active b q && (not (has l q) && has b.living q))
in_working b l q = has-filter (is_active b) (minus b.living l) q ∙ ap (λ x. is_active b q && x) (has-minus b.living l q)

pub in_waiting : (b : Plain) (l : List Name) (q : Name) → has (waiting b l) q ≡ (is_active b q && has l q)
in_waiting b l q = has-filter (is_active b) l q

nobody_wakes : (b : Plain) (n : ℕ) (l : List Name) → waiting b l ≡ [] → iterate (with_one_awake b) n l ≡ l
nobody_wakes b zero l h = refl
nobody_wakes b (suc n) l h = ap (iterate (with_one_awake b) n) (ap (λ w. option_map_or (λ p. minus l (p ∷ [])) (least (process_cmp b) w) l) h) ∙ nobody_wakes b n l h

module _ (b : Plain) (alive : IsInNameOrder b.living) where
  pub working_ordered : (l : List Name) → IsInNameOrder (working b l)
  working_ordered l = ordered-filter (is_active b) (minus b.living l) (ordered-filter (λ p. not (has l p)) b.living alive)

  -- one falls asleep
  one_fewer : (p : Name) (l : List Name) → has (working b l) p ≡ true → suc (length (working b (add p l))) ≡ length (working b l)
  one_fewer p l h = ap (λ m. suc (length m)) e ∙ length-without p (working b l) (working_ordered l) h
    where
      e : working b (add p l) ≡ minus (working b l) (p ∷ [])
      e = same_names (working b (add p l)) (minus (working b l) (p ∷ [])) (working_ordered (add p l)) (ordered-filter (λ q. not (has (p ∷ []) q)) (working b l) (working_ordered l))
          (λ q. in_working b (add p l) q ∙ ap (λ x. is_active b q && (not x && has b.living q)) (has-add p l q) ∙ without (is_active b q) (name_eq q p) (has l q) (has b.living q)
          ∙ sym (has-minus (working b l) (p ∷ []) q ∙ ap (λ x. not (name_eq q p || false) && x) (in_working b l q)))

  -- one wakes
  one_more : (p : Name) (l : List Name) → is_active b p ≡ true → has b.living p ≡ true → has l p ≡ true → length (working b (minus l (p ∷ []))) ≡ suc (length (working b l))
  one_more p l active lives sleeps = ap length e ∙ length-add p (working b l) absent
    where
      absent : has (working b l) p ≡ false
      absent = false_unless (has (working b l) p) (λ h. clash (and_gives_left (not (has l p)) (has b.living p) (and_gives_right (is_active b p) (not (has l p) && has b.living p) (sym (in_working b l p) ∙ h))) (ap not sleeps))

      at : (q : Name) (x : Bool) → name_eq q p ≡ x → (is_active b q && (not (not (x || false) && has l q) && has b.living q)) ≡ (x || (is_active b q && (not (has l q) && has b.living q)))
      at q true k = subst {A = Name} (λ z. (is_active b z && (true && has b.living z)) ≡ true) (sym (name_eq-eq q p k)) (and_from (is_active b p) (has b.living p) active lives)
      at q false k = refl

      e : working b (minus l (p ∷ [])) ≡ add p (working b l)
      e = same_names (working b (minus l (p ∷ []))) (add p (working b l)) (working_ordered (minus l (p ∷ []))) (ordered-add p (working b l) (working_ordered l))
          (λ q. in_working b (minus l (p ∷ [])) q ∙ ap (λ x. is_active b q && (not x && has b.living q)) (has-minus l (p ∷ []) q) ∙ at q (name_eq q p) refl
          ∙ sym (has-add p (working b l) q ∙ ap (λ x. name_eq q p || x) (in_working b l q)))

  -- ---- the sleepers are a label

  pub label_asleep : (l : List Name) → IsLabelOf b.living l → IsLabelOf b.living (with_one_asleep b l)
  label_asleep l h = go (greatest (process_cmp b) (working b l)) refl
    where
      go : (o : Option Name) → greatest (process_cmp b) (working b l) ≡ o → IsLabelOf b.living (option_map_or (λ p. add p l) o l)
      go None e = h
      go (Some p) e =
          let w = has_in (working b l) p (least-in (λ x y. process_cmp b y x) (working b l) p e) in
          label-add b.living p l (and_gives_right (not (has l p)) (has b.living p) (and_gives_right (is_active b p) (not (has l p) && has b.living p) (sym (in_working b l p) ∙ w))) h

  pub label_awake : (l : List Name) → IsLabelOf b.living l → IsLabelOf b.living (with_one_awake b l)
  label_awake l h = go (least (process_cmp b) (waiting b l))
    where
      go : (o : Option Name) → IsLabelOf b.living (option_map_or (λ p. minus l (p ∷ [])) o l)
      go None = h
      go (Some p) = label-filter b.living (λ q. not (has (p ∷ []) q)) l h

  label_iterated : (f : List Name → List Name) → ((l : List Name) → IsLabelOf b.living l → IsLabelOf b.living (f l)) → (n : ℕ) (l : List Name) → IsLabelOf b.living l → IsLabelOf b.living (iterate f n l)
  label_iterated f step zero l h = h
  label_iterated f step (suc n) l h = label_iterated f step n (f l) (step l h)

  pub label_rested : IsLabelOf b.living b.asleep → IsLabelOf b.living (rested b)
  label_rested h = label_iterated (with_one_asleep b) label_asleep (length (working b b.asleep) - most_awake) b.asleep h

  pub label_settled : IsLabelOf b.living b.asleep → IsLabelOf b.living (settled b)
  label_settled h = label_iterated (with_one_awake b) label_awake (most_awake - length (working b (rested b))) (rested b) (label_rested h)

  -- ---- how many work

  rested_few : (k n : ℕ) (l : List Name) → length (working b l) ≤ k + n → length (working b (iterate (with_one_asleep b) n l)) ≤ k
  rested_few k zero l h = omega (arith, h)
  rested_few k (suc n) l h = rested_few k n (with_one_asleep b l) (go (greatest (process_cmp b) (working b l)) refl)
    where
      go : (o : Option Name) → greatest (process_cmp b) (working b l) ≡ o → length (working b (option_map_or (λ p. add p l) o l)) ≤ k + n
      go None e = let z = ap length (least-none (λ x y. process_cmp b y x) (working b l) e) in omega (arith, z)
      go (Some p) e = let r = one_fewer p l (has_in (working b l) p (least-in (λ x y. process_cmp b y x) (working b l) p e)) in omega (arith, r, h)

  abbrev IsWoken : ℕ → ℕ → List Name → Type 0
  IsWoken before n m = (length (working b m) ≤ before + n) × ((waiting b m ≡ []) ⊎ (length (working b m) ≡ before + n))

  woken : (n : ℕ) (l : List Name) → IsLabelOf b.living l → IsWoken (length (working b l)) n (iterate (with_one_awake b) n l)
  woken zero l h = (omega arith, inr (omega arith))
  woken (suc n) l h = go (least (process_cmp b) (waiting b l)) refl (woken n (with_one_awake b l) (label_awake l h))
    where
      go : (o : Option Name) → least (process_cmp b) (waiting b l) ≡ o
          → IsWoken (length (working b (option_map_or (λ p. minus l (p ∷ [])) o l))) n (iterate (with_one_awake b) n (option_map_or (λ p. minus l (p ∷ [])) o l))
          → IsWoken (length (working b l)) (suc n) (iterate (with_one_awake b) n (option_map_or (λ p. minus l (p ∷ [])) o l))
      go None e ih =
          let none : waiting b l ≡ [] = least-none (process_cmp b) (waiting b l) e in
          subst {A = List Name} (IsWoken (length (working b l)) (suc n)) (sym (nobody_wakes b n l none)) (omega arith, inl none)
      go (Some p) e ih =
          let w = sym (in_waiting b l p) ∙ has_in (waiting b l) p (least-in (process_cmp b) (waiting b l) p e) in
          let s = and_gives_right (is_active b p) (has l p) w in
          let r = one_more p l (and_gives_left (is_active b p) (has l p) w) (h.lives p s) s in
          (let k = ih.0 in omega (arith, r, k), ⊎_elim inl (λ k. inr (omega (arith, r, k))) ih.1)

  settled_woken : IsLabelOf b.living b.asleep → IsWoken (length (working b (rested b))) (most_awake - length (working b (rested b))) (settled b)
  settled_woken h = woken (most_awake - length (working b (rested b))) (rested b) (label_rested h)

  at_most : length (working b (rested b)) ≤ most_awake
  at_most = rested_few most_awake (length (working b b.asleep) - most_awake) b.asleep (omega arith)

  pub sleepers_settled : IsLabelOf b.living b.asleep → SleepersWait (settle b)
  sleepers_settled h = record {
    few = let k = (settled_woken h).0 in let m = at_most in omega (arith, k, m);
    none_waits = λ l p s. ⊎_elim
        (λ e. false_unless (is_active b p) (λ a. clash (in_waiting b (settled b) p ∙ and_from (is_active b p) (has (settled b) p) a s) (ap (λ w. has w p) e)))
        (λ e. let m = at_most in absurd (omega (arith, e, l, m)))
        (settled_woken h).1;
  }

-- ---- the opening board

-- no more names pass a test than there are
pub few_pass : (f : Name → Bool) (l : List Name) → length (filter f l) ≤ length l
few_pass f [] = omega arith
few_pass f (p ∷ l) = go (f p) (few_pass f l)
  where
    go : (x : Bool) → length (filter f l) ≤ length l → length (cond x (p ∷ filter f l) (filter f l)) ≤ suc (length l)
    go true h = omega (arith, h)
    go false h = omega (arith, h)

-- no more processes work than live
pub working_few : (b : Plain) (l : List Name) → length (working b l) ≤ length b.living
working_few b l = let h = few_pass (is_active b) (minus b.living l) in let k = few_pass (λ p. not (has l p)) b.living in omega (arith, h, k)

pub opening_works : (P : Problem) (n : Settings) → length (working (opening P n) []) ≤ most_awake
opening_works P n = let h = working_few (opening P n) [] in omega (arith, h)

-- ---- where nothing is to be done

-- where at most 64 work, and none waits where fewer do, who sleeps stays
pub settled_same : (b : Plain) → SleepersWait b → settled b ≡ b.asleep
settled_same b h = ap (λ l. iterate (with_one_awake b) (most_awake - length (working b l)) l) rests ∙ go (most_awake - length (working b b.asleep)) refl
  where
    rests : rested b ≡ b.asleep
    rests = let few = h.few in let none : length (working b b.asleep) - most_awake ≡ 0 = omega (arith, few) in ap (λ n. iterate (with_one_asleep b) n b.asleep) none

    go : (n : ℕ) → most_awake - length (working b b.asleep) ≡ n → iterate (with_one_awake b) n b.asleep ≡ b.asleep
    go zero e = refl
    go (suc n) e = nobody_wakes b (suc n) b.asleep (filter_none_of (is_active b) b.asleep (λ p c. h.none_waits (omega (arith, e)) p (has_in b.asleep p c)))

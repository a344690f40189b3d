-- What a closing and a limit do to the processes on which they act.
use Rattle.std.proofs.Common.{ℕ, ◌≡◌, refl, sym, ap, ◌∙◌, subst, arith, eqb→eq, List, [], ◌∷◌, ◌++◌, map, Bool, true, false, cond, not, ◌||◌, Some, ⊎_elim}
use Rattle.std.specs.Prelude.{T}
use Rattle.std.specs.List.{list_any}
use Rattle.std.proofs.lemmas.Bool.{and_from, or_cases, or_left, or_right, or_parts}
use Rattle.kb_term.specs.Signature.{Problem}
use Rattle.kb_label.specs.Names.{Name, has, join, name_eq}
use Rattle.kb_label.specs.declared.verdict.Reason.{Reason}
use Rattle.kb_label.specs.declared.verdict.Reason.TheVariants.{Nodes, Processes, Size, Depth, Variables, Steps}
use Rattle.kb_label.proofs.Members.{has-add, has-filter, has-join, name_eq-refl}
use Rattle.kb_node.specs.declared.job.Fact.{Fact}
use Rattle.mkb_model.specs.Plain.{Plain, GivenUp, is_over, over_in, view}
use Rattle.mkb_model.specs.Effects.{give_up, effect_label, not_over, reason_eq, reason_number}
use Rattle.mkb_model.specs.Journals.{Moment, IsPossibleRun, IsCommitting, IsFreeJob}
use Rattle.mkb_model.specs.declared.entry.Effect.TheVariants.{Over, Made}
use Rattle.mkb_model.specs.declared.proposed.Proposed.TheVariants.{Facts, Closed}
use Rattle.mkb_model.specs.declared.settings.Settings.{Settings}
use Rattle.mkb_model.proofs.Lists.{clash, decide, not_of_false}
use Rattle.mkb_model.proofs.runs.OverReasons.{given_over}
use Rattle.mkb_moves.specs.Moves.{GivesUp}
use Rattle.mkb_moves.proofs.Makes.{making, stopping}

-- the process is closed, and sees what it saw
pub closing_noted : (past : List Moment) (b : Plain) (w t : ℕ) (p : Name) (next : Plain) → IsCommitting past b w t (Made (Closed p)) next → (has next.closed p ≡ true) × (view next p ≡ view b p)
closing_noted past b w t p next f = subst {A = Plain} (λ z. (has z.closed p ≡ true) × (view z p ≡ view b p)) (sym (making past b w t (Closed p) next f).leads_to)
    (has-add p b.closed p ∙ or_left (name_eq p p) (has b.closed p) (name_eq-refl p), refl)

-- facts are noted, and every process sees what it saw
pub facts_noted : (past : List Moment) (b : Plain) (w t : ℕ) (fs : List Fact) (next : Plain) → IsCommitting past b w t (Made (Facts fs)) next → (next.facts ≡ b.facts ++ fs) × ((p : Name) → view next p ≡ view b p)
facts_noted past b w t fs next f = subst {A = Plain} (λ z. (z.facts ≡ b.facts ++ fs) × ((p : Name) → view z p ≡ view b p)) (sym (making past b w t (Facts fs) next f).leads_to) (refl, λ p. refl)

reason_is : (r s : Reason) → reason_number r ≡ reason_number s → r ≡ s
reason_is Nodes Nodes e = refl
reason_is Processes Processes e = refl
reason_is Size Size e = refl
reason_is Depth Depth e = refl
reason_is Variables Variables e = refl
reason_is Steps Steps e = refl
reason_is r s e = absurd (omega (arith, e))

same_reason : (r s : Reason) → reason_eq r s ≡ true → r ≡ s
same_reason r s e = reason_is r s (eqb→eq (reason_number r) (reason_number s) (subst {A = Bool} T (sym e) tt))

-- the lists of those that gave up, with these names more for the reason
module _ (r : Reason) (l : List Name) (p : Name) where
  abbrev more : GivenUp → GivenUp
  more g = cond (reason_eq g.reason r) (record g { names = join g.names l }) g

  still_over : (gs : List GivenUp) → list_any (λ (g : GivenUp). has g.names p) gs ≡ true → list_any (λ (g : GivenUp). has g.names p) (map more gs) ≡ true
  still_over [] h = clash h refl
  still_over (g ∷ gs) h = ⊎_elim (λ k. or_left (has (more g).names p) (list_any (λ (g : GivenUp). has g.names p) (map more gs)) (named (reason_eq g.reason r) k)) (λ k. or_right (has (more g).names p) (list_any (λ (g : GivenUp). has g.names p) (map more gs)) (still_over gs k)) (or_cases (has g.names p) (list_any (λ (g : GivenUp). has g.names p) gs) h)
    where
      named : (x : Bool) → has g.names p ≡ true → has (cond x (record g { names = join g.names l }) g).names p ≡ true
      named true k = has-join g.names l p ∙ or_left (has g.names p) (has l p) k
      named false k = k

  -- who is named anew is named for this reason
  new_reason : (gs : List GivenUp) → list_any (λ (g : GivenUp). has g.names p) gs ≡ false → list_any (λ (g : GivenUp). has g.names p) (map more gs) ≡ true → over_in (map more gs) p ≡ Some r
  new_reason [] none h = clash h refl
  new_reason (g ∷ gs) none h = go (reason_eq g.reason r) refl h (λ k. new_reason gs apart.1 k)
    where
      apart : (has g.names p ≡ false) × (list_any (λ (g : GivenUp). has g.names p) gs ≡ false)
      apart = or_parts (has g.names p) (list_any (λ (g : GivenUp). has g.names p) gs) none

      pick : (s : Reason) (y : Bool) → (y ≡ true → s ≡ r) → (y || list_any (λ (g : GivenUp). has g.names p) (map more gs)) ≡ true → (list_any (λ (g : GivenUp). has g.names p) (map more gs) ≡ true → over_in (map more gs) p ≡ Some r) → cond y (Some s) (over_in (map more gs) p) ≡ Some r
      pick s true f k ih = ap Some (f refl)
      pick s false f k ih = ih k

      go : (x : Bool) → reason_eq g.reason r ≡ x → (has (cond x (record g { names = join g.names l }) g).names p || list_any (λ (g : GivenUp). has g.names p) (map more gs)) ≡ true → (list_any (λ (g : GivenUp). has g.names p) (map more gs) ≡ true → over_in (map more gs) p ≡ Some r)
          → over_in (cond x (record g { names = join g.names l }) g ∷ map more gs) p ≡ Some r
      go true e k ih = pick g.reason (has (join g.names l) p) (λ _. same_reason g.reason r e) k ih
      go false e k ih = pick g.reason (has g.names p) (λ n. clash n apart.0) k ih

-- a limit stops the processes on which the proposal acts
pub limit_stops : (P : Problem) (n : Settings) (past : List Moment) (b : Plain) → IsPossibleRun P n past b → (w t : ℕ) (r : Reason) (next : Plain) → (f : IsCommitting past b w t (Over r) next)
    → (p : Name) → has (effect_label b f.proposal) p ≡ true → GivesUp b next p r
limit_stops P n past b run w t r next f p named = subst {A = Plain} (λ z. GivesUp b z p r) (sym (stopping past b w t r next f)) (record {
  over = ⊎_elim (λ k. still_over r (not_over b (effect_label b f.proposal)) p b.over k) fresh (decide (is_over b p));
  reason = λ k. new_reason r (not_over b (effect_label b f.proposal)) p b.over k (fresh k);
  same_view = refl;
})
  where
    fresh : is_over b p ≡ false → is_over (give_up r (effect_label b f.proposal) b) p ≡ true
    fresh k = given_over IsFreeJob P n past b run r (effect_label b f.proposal) p
        (has-filter (λ q. not (is_over b q)) (effect_label b f.proposal) p ∙ and_from (not (is_over b p)) (has (effect_label b f.proposal) p) (not_of_false k) named)

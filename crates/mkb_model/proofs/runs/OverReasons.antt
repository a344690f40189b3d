-- On each board of a run the list of those that gave up has each reason, so giving up for one is seen.
use Rattle.std.proofs.Common.{◌≡◌, refl, sym, ap, ◌∙◌, subst, arith, List, [], ◌∷◌, map, Contains, Bool, true, false, cond, Option, Some, None}
use Rattle.std.specs.Option.{option_map_or}
use Rattle.std.proofs.lemmas.Bool.{eq-eqb, or_right}
use Rattle.kb_lemmas.proofs.Membership.{contains_mapped, contains_map}
use Rattle.kb_term.specs.Signature.{Problem}
use Rattle.kb_label.specs.Names.{Name, has, join, relabel}
use Rattle.kb_label.specs.declared.verdict.Reason.{Reason}
use Rattle.kb_label.specs.declared.verdict.Reason.TheVariants.{Nodes, Processes, Size, Depth, Variables, Steps}
use Rattle.kb_label.proofs.Members.{has-join}
use Rattle.kb_node.specs.declared.job.Job.{Job}
use Rattle.mkb_model.specs.Plain.{Plain, GivenUp, is_over, nobody_over}
use Rattle.mkb_model.specs.Effects.{applied, effect, limit_of, give_up, effect_label, not_over, reason_eq, reason_number}
use Rattle.mkb_model.specs.Journals.{Moment, Follows, IsRunBy}
use Rattle.mkb_model.specs.declared.proposed.Proposed.{Proposed}
use Rattle.mkb_model.specs.declared.proposed.Proposed.TheVariants.{Facts, Rewrite, One, Both, Refuse, Deduce, Unjoined, Closed, Limit}
use Rattle.mkb_model.specs.declared.entry.Entry.{Entry}
use Rattle.mkb_model.specs.declared.entry.Entry.TheVariants.{Take, Commit, Drop, Abandon, Halt}
use Rattle.mkb_model.proofs.Lists.{in_any}
use Rattle.mkb_model.specs.declared.settings.Settings.{Settings}

abbrev reasons : List GivenUp → List Reason
reasons gs = map (λ (g : GivenUp). g.reason) gs

reasons_mapped : (f : GivenUp → GivenUp) → ((g : GivenUp) → (f g).reason ≡ g.reason) → (gs : List GivenUp) → reasons (map f gs) ≡ reasons gs
reasons_mapped f h [] = refl
reasons_mapped f h (g ∷ gs) = ap (λ (r : Reason). r ∷ reasons (map f gs)) (h g) ∙ ap (g.reason ∷◌) (reasons_mapped f h gs)

reasons_given : (b : Plain) (r : Reason) (l : List Name) → reasons (give_up r l b).over ≡ reasons b.over
reasons_given b r l = reasons_mapped (λ (g : GivenUp). cond (reason_eq g.reason r) (record g { names = join g.names (not_over b l) }) g) (λ g. go g (reason_eq g.reason r)) b.over
  where
    go : (g : GivenUp) (x : Bool) → (cond x (record g { names = join g.names (not_over b l) }) g).reason ≡ g.reason
    go g true = refl
    go g false = refl

reasons_applied : (b : Plain) (x : Proposed) → reasons (applied b x).over ≡ reasons b.over
reasons_applied b (Both p n c0 c1) = reasons_mapped (λ (g : GivenUp). record g { names = relabel p g.names }) (λ g. refl) b.over
reasons_applied b (Facts fs) = refl
reasons_applied b (Rewrite n w at a kind t) = refl
reasons_applied b (One p n d c) = refl
reasons_applied b (Refuse p n) = refl
reasons_applied b (Deduce a c ds) = refl
reasons_applied b (Unjoined p ds) = refl
reasons_applied b (Closed p) = refl
reasons_applied b (Limit j cause) = refl

reasons_effect : (b : Plain) (x : Proposed) → reasons (effect b x).over ≡ reasons b.over
reasons_effect b x = go (limit_of b x)
  where
    go : (o : Option Reason) → reasons (option_map_or (λ r. give_up r (effect_label b x) b) o (applied b x)).over ≡ reasons b.over
    go None = reasons_applied b x
    go (Some r) = reasons_given b r (effect_label b x)

reasons_run : (May : Plain → Job → Type 0) (P : Problem) (n : Settings) (ms : List Moment) (c : Plain) → IsRunBy May P n ms c → reasons c.over ≡ reasons nobody_over
reasons_run May P n [] c run = ap (λ (z : Plain). reasons z.over) run
reasons_run May P n (m ∷ ms) c (run, f) = go m.entry f ∙ reasons_run May P n ms m.board run
  where
    go : (e : Entry) → Follows May ms m.board e c → reasons c.over ≡ reasons m.board.over
    go (Take w t j) f = ap (λ (z : Plain). reasons z.over) f.leads_to
    go (Commit w t e) f = ap (λ (z : Plain). reasons z.over) f.leads_to ∙ reasons_effect m.board f.proposal
    go (Drop w t p) f = ap (λ (z : Plain). reasons z.over) f.leads_to
    go (Abandon w t) f = ap (λ (z : Plain). reasons z.over) f.leads_to
    go Halt f = ap (λ (z : Plain). reasons z.over) f.1

each_reason : (r : Reason) → Contains (reasons nobody_over) r
each_reason Nodes = (0, omega arith, refl)
each_reason Processes = (1, omega arith, refl)
each_reason Size = (2, omega arith, refl)
each_reason Depth = (3, omega arith, refl)
each_reason Variables = (4, omega arith, refl)
each_reason Steps = (5, omega arith, refl)

-- who gives up has given up afterwards
pub given_over : (May : Plain → Job → Type 0) (P : Problem) (n : Settings) (ms : List Moment) (b : Plain) → IsRunBy May P n ms b → (r : Reason) (l : List Name) (p : Name) → has (not_over b l) p ≡ true → is_over (give_up r l b) p ≡ true
given_over May P n ms b run r l p h =
    let m = contains_mapped (λ (g : GivenUp). g.reason) b.over r (subst {A = List Reason} (λ rs. Contains rs r) (sym (reasons_run May P n ms b run)) (each_reason r)) in
    in_any (λ (g : GivenUp). has g.names p) (map given b.over) (given m.0) (contains_map given b.over m.0 m.1) (named m.0 (reason_eq m.0.reason r) (eq-eqb (reason_number m.0.reason) (reason_number r) (ap reason_number m.2)))
  where
    given : GivenUp → GivenUp
    given g = cond (reason_eq g.reason r) (record g { names = join g.names (not_over b l) }) g

    named : (g : GivenUp) (x : Bool) → x ≡ true → has (cond x (record g { names = join g.names (not_over b l) }) g).names p ≡ true
    named g true e = has-join g.names (not_over b l) p ∙ or_right (has g.names p) (has (not_over b l) p) h
    named g false e = absurd (cc)

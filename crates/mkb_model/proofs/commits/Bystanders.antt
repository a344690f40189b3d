-- A process that the effect label does not name keeps its roles, its overlapped rules, and whether it is closed or gave up.
use Rattle.std.proofs.Common.{ℕ, ◌≡◌, ◌≢◌, refl, sym, ap, ◌∙◌, subst, List, [], ◌∷◌, ◌++◌, map, Bool, true, false, cond, not, ◌&&◌, ◌||◌, ◌==◌, Option, Some, None}
use Rattle.std.specs.Prelude.{IsFalse, option_map}
use Rattle.std.specs.List.{find, list_any}
use Rattle.std.specs.Option.{option_map_or}
use Rattle.std.proofs.lemmas.Bool.{and_right}
use Rattle.std.proofs.Math.Bool.{or-false}
use Rattle.kb_lemmas.proofs.Options.{none_some}
use Rattle.kb_term.specs.View.{tree_of}
use Rattle.kb_term.specs.Pair.{Pair}
use Rattle.kb_term.specs.declared.origin.RuleRef.{RuleRef}
use Rattle.kb_term.specs.declared.origin.Found.{Found}
use Rattle.kb_label.specs.Names.{Name, has, name_eq, relabel, join}
use Rattle.kb_label.specs.declared.verdict.Reason.{Reason}
use Rattle.kb_label.proofs.Members.{has-add, has-join, has-filter, name_eq-refl}
use Rattle.kb_node.specs.declared.job.Fact.{Fact}
use Rattle.kb_node.specs.declared.node.LabelKind.{LabelKind}
use Rattle.kb_node.specs.declared.node.LabelKind.TheVariants.{X}
use Rattle.mkb_model.specs.Jobs.{ref_eq}
use Rattle.mkb_model.specs.Plain.{Plain, PlainNode, Done, GivenUp, done_in, done_of, is_over, known, is_equation, pair_at, label_at}
use Rattle.mkb_model.specs.Effects.{applied, effect, limit_of, give_up, effect_label, rewrite_label, overlap_label, orient_label, not_over, rewritten, gains_done_in, reason_eq, is_dropped}
use Rattle.mkb_model.specs.Invariants.{AreApart}
use Rattle.mkb_model.specs.declared.proposed.Proposed.{Proposed}
use Rattle.mkb_model.specs.declared.proposed.Proposed.TheVariants.{Facts, Rewrite, One, Both, Refuse, Deduce, Unjoined, Closed, Limit}
use Rattle.mkb_model.proofs.Lists.{clash, same_test}
use Rattle.mkb_model.proofs.commits.Roles.{KeepsRoles, keeps-gains, relabel-other, has-one}
use Rattle.mkb_model.proofs.commits.Orienting.{keeps-oriented}
use Rattle.mkb_model.proofs.commits.Adding.{keeps-added}
use Rattle.mkb_model.proofs.commits.Commits.{IsApartFrom, keeps-rewritten, fork_other, orients}
use Rattle.mkb_model.proofs.runs.Simulation.{apart_from}

-- nothing of the process changed
pub record IsUnmoved (b c : Plain) (p : Name) : Type 0 where
  pub roles : KeepsRoles b.nodes c.nodes p
  pub done : (a e : RuleRef) → has (done_of c a e) p ≡ has (done_of b a e) p
  pub closed : has c.closed p ≡ has b.closed p
  pub over : is_over c p ≡ is_over b p
  pub known : (n w : ℕ) (a : RuleRef) (v : Found) → known b n w a ≡ Some v → known c n w a ≡ Some v

-- ---- lists

done_gained : (p : Name) (a c : RuleRef) (l : List Name) → has l p ≡ false → (ds : List Done) (x y : RuleRef) → has (done_in (gains_done_in a c l ds) x y) p ≡ has (done_in ds x y) p
done_gained p a c l h [] x y = go (ref_eq a x && ref_eq c y)
  where
    go : (z : Bool) → has (cond z l []) p ≡ false
    go true = h
    go false = refl
done_gained p a c l h (d ∷ ds) x y = go (ref_eq d.first a && ref_eq d.second c) (done_gained p a c l h ds x y)
  where
    inner : (z : Bool) (m n : List Name) → has m p ≡ has d.names p → has n p ≡ has (done_in ds x y) p → has (cond z m n) p ≡ has (cond z d.names (done_in ds x y)) p
    inner true m n e f = e
    inner false m n e f = f

    joined : has (join d.names l) p ≡ has d.names p
    joined = has-join d.names l p ∙ ap (λ z. has d.names p || z) h ∙ or-false (has d.names p)

    go : (z : Bool) → has (done_in (gains_done_in a c l ds) x y) p ≡ has (done_in ds x y) p → has (done_in (cond z (record d { names = join d.names l } ∷ ds) (d ∷ gains_done_in a c l ds)) x y) p ≡ has (done_in (d ∷ ds) x y) p
    go true ih = inner (ref_eq d.first x && ref_eq d.second y) (join d.names l) (done_in ds x y) joined refl
    go false ih = inner (ref_eq d.first x && ref_eq d.second y) d.names (done_in (gains_done_in a c l ds) x y) refl ih

done_forked : (q p : Name) → IsApartFrom q p → (ds : List Done) (x y : RuleRef) → has (done_in (map (λ (d : Done). record d { names = relabel q d.names }) ds) x y) p ≡ has (done_in ds x y) p
done_forked q p h [] x y = refl
done_forked q p h (d ∷ ds) x y = go (ref_eq d.first x && ref_eq d.second y) (done_forked q p h ds x y)
  where
    go : (z : Bool) → has (done_in (map (λ (d : Done). record d { names = relabel q d.names }) ds) x y) p ≡ has (done_in ds x y) p → has (cond z (relabel q d.names) (done_in (map (λ (d : Done). record d { names = relabel q d.names }) ds) x y)) p ≡ has (cond z d.names (done_in ds x y)) p
    go true ih = relabel-other q p d.names h.not_itself h.not_first h.not_second
    go false ih = ih

over_mapped : (p : Name) (f : GivenUp → GivenUp) → ((g : GivenUp) → has (f g).names p ≡ has g.names p) → (gs : List GivenUp) → list_any (λ (g : GivenUp). has g.names p) (map f gs) ≡ list_any (λ (g : GivenUp). has g.names p) gs
over_mapped p f h [] = refl
over_mapped p f h (g ∷ gs) = ap (λ z. z || list_any (λ (g : GivenUp). has g.names p) (map f gs)) (h g) ∙ ap (λ z. has g.names p || z) (over_mapped p f h gs)

found_more : {A : Type 0} (f : A → Bool) (xs ys : List A) (x : A) → find f xs ≡ Some x → find f (xs ++ ys) ≡ Some x
found_more f [] ys x h = none_some h
found_more {A} f (z ∷ xs) ys x h = go (f z) (found_more f xs ys x) h
  where
    go : (y : Bool) → (find f xs ≡ Some x → find f (xs ++ ys) ≡ Some x) → cond y (Some z) (find f xs) ≡ Some x → cond y (Some z) (find f (xs ++ ys)) ≡ Some x
    go true ih k = k
    go false ih k = ih k

known_more : (fs gs : List Fact) (n w : ℕ) (a : RuleRef) (v : Found) → option_map (λ (f : Fact). f.found) (find (λ (f : Fact). (f.node.0 == n) && ((f.side == w) && ref_eq f.rule a)) fs) ≡ Some v
    → option_map (λ (f : Fact). f.found) (find (λ (f : Fact). (f.node.0 == n) && ((f.side == w) && ref_eq f.rule a)) (fs ++ gs)) ≡ Some v
known_more fs gs n w a v h = go (find (λ (f : Fact). (f.node.0 == n) && ((f.side == w) && ref_eq f.rule a)) fs) refl h
  where
    go : (o : Option Fact) → find (λ (f : Fact). (f.node.0 == n) && ((f.side == w) && ref_eq f.rule a)) fs ≡ o → option_map (λ (f : Fact). f.found) o ≡ Some v → option_map (λ (f : Fact). f.found) (find (λ (f : Fact). (f.node.0 == n) && ((f.side == w) && ref_eq f.rule a)) (fs ++ gs)) ≡ Some v
    go None e k = none_some k
    go (Some f) e k = ap (option_map (λ (f : Fact). f.found)) (found_more (λ (f : Fact). (f.node.0 == n) && ((f.side == w) && ref_eq f.rule a)) fs gs f e) ∙ k

-- ---- effects

-- who is not oriented is another process
not_oriented : (b : Plain) (q p : Name) (n : ℕ) → is_equation b q n ≡ true → has (orient_label b q n) p ≡ false → name_eq p q ≡ false
not_oriented b q p n e h = go (is_equation b q n) e h
  where
    go : (x : Bool) → x ≡ true → has (cond x (q ∷ []) []) p ≡ false → name_eq p q ≡ false
    go true e h = sym (has-one q p) ∙ h
    go false e h = clash e refl

pub same_roles : (xs : List PlainNode) (p : Name) → KeepsRoles xs xs p
same_roles xs p m j = ((λ o. o), λ o. o)

-- the fork of a living process leaves another living process alone
pub apart_forked : (b : Plain) (q p : Name) → AreApart b.living → has b.living q ≡ true → has b.living p ≡ true → p ≢ q → IsApartFrom q p
apart_forked b q p apart lives named d = apart_from q b.living lives apart p named d

unmoved_applied : (b : Plain) (x : Proposed) (p : Name) → IsFalse (is_dropped b x) → has (effect_label b x) p ≡ false → AreApart b.living → ((q : Name) (n : ℕ) → is_equation b q n ≡ true → has b.living q ≡ true) → has b.living p ≡ true → IsUnmoved b (applied b x) p
unmoved_applied b (Facts fs) p acts h apart owners lives = record { roles = same_roles b.nodes p; done = λ a e. refl; closed = refl; over = refl; known = λ n w a v k. known_more b.facts fs n w a v k }
unmoved_applied b (Rewrite n w at a kind t) p acts h apart owners lives = record { roles = go (pair_at b n.0); done = λ a e. refl; closed = refl; over = refl; known = λ n w a v k. k }
  where
    go : (o : Option Pair) → KeepsRoles b.nodes (option_map_or (λ q. rewritten (rewrite_label b n.0 w a kind) n.0 w at a kind (tree_of t) q) o (λ xs. xs) b.nodes) p
    go None = same_roles b.nodes p
    go (Some z) = keeps-rewritten (rewrite_label b n.0 w a kind) n.0 w at a kind (tree_of t) z b.nodes p h
unmoved_applied b (One q n d c) p acts h apart owners lives = record { roles = keeps-oriented q (record { node = n.0; dir = d }) b.nodes p (not_oriented b q p n.0 (orients b q n.0 acts) h); done = λ a e. refl; closed = refl; over = refl; known = λ n w a v k. k }
unmoved_applied b (Both q n c0 c1) p acts h apart owners lives = record {
  roles = fork_other b q n.0 p away;
  done = done_forked q p away b.done;
  closed = relabel-other q p b.closed away.not_itself away.not_first away.not_second;
  over = over_mapped p (λ (g : GivenUp). record g { names = relabel q g.names }) (λ g. relabel-other q p g.names away.not_itself away.not_first away.not_second) b.over;
  known = λ n w a v k. k;
}
  where
    has_it : is_equation b q n.0 ≡ true
    has_it = orients b q n.0 acts

    away : IsApartFrom q p
    away = apart_forked b q p apart (owners q n.0 has_it) lives (λ e. clash (subst {A = Name} (λ z. name_eq p z ≡ true) e (name_eq-refl p)) (not_oriented b q p n.0 has_it h))
unmoved_applied b (Refuse q n) p acts h apart owners lives = record { roles = keeps-gains n.0 X (q ∷ []) b.nodes p (has-one q p ∙ not_oriented b q p n.0 (orients b q n.0 acts) h); done = λ a e. refl; closed = refl; over = refl; known = λ n w a v k. k }
unmoved_applied b (Deduce a c ds) p acts h apart owners lives = record { roles = keeps-added (overlap_label b a c) ds b.nodes p h; done = done_gained p a c (overlap_label b a c) h b.done; closed = refl; over = refl; known = λ n w a v k. k }
unmoved_applied b (Unjoined q ds) p acts h apart owners lives = record { roles = keeps-added (q ∷ []) ds b.nodes p h; done = λ a e. refl; closed = refl; over = refl; known = λ n w a v k. k }
unmoved_applied b (Closed q) p acts h apart owners lives = record { roles = same_roles b.nodes p; done = λ a e. refl; closed = has-add q b.closed p ∙ ap (λ z. z || has b.closed p) (sym (has-one q p) ∙ h); over = refl; known = λ n w a v k. k }
unmoved_applied b (Limit j cause) p acts h apart owners lives = record { roles = same_roles b.nodes p; done = λ a e. refl; closed = refl; over = refl; known = λ n w a v k. k }

unmoved_over : (b : Plain) (r : Reason) (l : List Name) (p : Name) → has l p ≡ false → IsUnmoved b (give_up r l b) p
unmoved_over b r l p h = record { roles = same_roles b.nodes p; done = λ a e. refl; closed = refl; over = over_mapped p (λ (g : GivenUp). cond (reason_eq g.reason r) (record g { names = join g.names (not_over b l) }) g) (λ g. go g (reason_eq g.reason r)) b.over; known = λ n w a v k. k }
  where
    not_in : has (not_over b l) p ≡ false
    not_in = has-filter (λ q. not (is_over b q)) l p ∙ and_right (not (is_over b p)) (has l p) h

    go : (g : GivenUp) (x : Bool) → has (cond x (record g { names = join g.names (not_over b l) }) g).names p ≡ has g.names p
    go g true = has-join g.names (not_over b l) p ∙ ap (λ z. has g.names p || z) not_in ∙ or-false (has g.names p)
    go g false = refl

-- who is not named keeps all
pub unmoved_effect : (b : Plain) (x : Proposed) (p : Name) → IsFalse (is_dropped b x) → has (effect_label b x) p ≡ false → AreApart b.living → ((q : Name) (n : ℕ) → is_equation b q n ≡ true → has b.living q ≡ true) → has b.living p ≡ true → IsUnmoved b (effect b x) p
unmoved_effect b x p acts h apart owners lives = let k = go (limit_of b x) in record { roles = k.roles; done = k.done; closed = k.closed; over = k.over; known = k.known }
  where
    go : (o : Option Reason) → IsUnmoved b (option_map_or (λ r. give_up r (effect_label b x) b) o (applied b x)) p
    go None = unmoved_applied b x p acts h apart owners lives
    go (Some r) = unmoved_over b r (effect_label b x) p h

-- the tests of roles are the same
pub role_tests : (b c : Plain) (p : Name) → KeepsRoles b.nodes c.nodes p → (m : ℕ) (j : LabelKind) → has (label_at c.nodes m j) p ≡ has (label_at b.nodes m j) p
role_tests b c p h m j = same_test (has (label_at c.nodes m j) p) (has (label_at b.nodes m j) p) (h m j).0 (h m j).1

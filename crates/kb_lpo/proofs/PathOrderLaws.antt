-- The laws of the path order, in the words of the definitions.
use Rattle.std.proofs.Common.{ℕ, List, length, All, Contains}
use Rattle.std.specs.Prelude.{slice_index_or}
use Rattle.std.proofs.lemmas.List.Elements.{All-contains}
use Rattle.kb_term.specs.Rule.{Rule}
use Rattle.kb_term.proofs.Bridge.{halts_to, step_from_position}
use Rattle.kb_term.proofs.Steps.{occurs_from, occurs_to}
use Rattle.kb_lpo.specs.PathOrder.{LpoGreater}
use Rattle.kb_lpo.specs.Precedences.{precedences, LpoOrients}
use Rattle.kb_lpo.specs.PathOrderLaws.{IsClosedUnderSubstitutions, IsClosedUnderContexts, OrientsRulesOnly, RewritingDescends, HaltsWhatItOrients, FirstBoundsMore, NoneForMore}
use Rattle.kb_lpo.proofs.Lpo.{path_from_lpo, lpo_from_path}
use Rattle.kb_lpo.proofs.LpoLaws.{path-instance, path_at, step_greater, lesser_variables, no_lesser}
use Rattle.kb_lpo.proofs.LpoHalting.{lpo_halts}
use Rattle.kb_lpo.proofs.Arities.{arity_at, below, sound_from, well_from}

pub lpo-instance : (p : List ℕ) → IsClosedUnderSubstitutions (LpoGreater p)
lpo-instance p m s t h = lpo_from_path p (path-instance p m (path_from_lpo p h))

pub lpo_at : (p : List ℕ) → IsClosedUnderContexts (LpoGreater p)
lpo_at p u q s t v w h e d = lpo_from_path p (path_at p u q s t v w (path_from_lpo p h) e d)

pub lpo_step : (p : List ℕ) → RewritingDescends p
lpo_step p rules all s t h = lpo_from_path p (step_greater p (Contains rules) (λ r i. path_from_lpo p (All-contains (λ (r : Rule). LpoGreater p r.left r.right) rules r all i)) (step_from_position (Contains rules) s t h))

pub lpo_rule : (p : List ℕ) → OrientsRulesOnly p
lpo_rule p rule h = record {
  no_variable = λ n e. no_lesser e (path_from_lpo p h);
  holds_variables = λ n c. occurs_to n rule.left (lesser_variables n (path_from_lpo p h) (occurs_from n rule.right c));
}

pub terminating_by_lpo : (p : List ℕ) → HaltsWhatItOrients p
terminating_by_lpo p g rules over all t w =
    halts_to rules t (lpo_halts (arity_at g) (below (length g)) p rules (λ k d h. sound_from g (slice_index_or rules k d) (over k d h)) (λ k d h. path_from_lpo p (all k d h)) t (well_from g t w))

orients_some : (p : List ℕ) (some rules : List Rule) → All (Contains rules) some → LpoOrients p rules → LpoOrients p some
orients_some p some rules sub all k d h = All-contains (λ (r : Rule). LpoGreater p r.left r.right) rules (slice_index_or some k d) all (sub k d h)

pub first_bounds_more : (count : ℕ) → FirstBoundsMore count
first_bounds_more count some rules start sub (o, before, after, e, n) = (before, after, e, λ k d h q. n k d h (orients_some (slice_index_or before k d) some rules sub q))

pub none_for_more : (count : ℕ) → NoneForMore count
none_for_more count some rules sub n = λ k d h q. n k d h (orients_some (slice_index_or (precedences count) k d) some rules sub q)

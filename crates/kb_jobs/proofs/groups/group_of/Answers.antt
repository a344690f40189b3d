use Rattle.std.proofs.Common.{◌≡◌, Bool, List, [], ◌∷◌, map, refl, ap, subst}
use Rattle.kb_overlap.specs.Overlap.{IsOverlapList}
use Rattle.kb_overlap.specs.View.{overlap_of}
use Rattle.kb_overlap.specs.declared.overlap.Overlap.{Overlap}
use Rattle.mkb_model.specs.Proposals.{NamedOverlap}
use Rattle.kb_term.specs.declared.origin.RuleRef.{RuleRef}
use Rattle.kb_jobs.proofs.groups.group_of.Goals as goal

named_twice : (a c : RuleRef) (os : List Overlap) → map (λ (o : Overlap). let named : NamedOverlap = record { outer = a; inner = c; overlap = overlap_of o } in named) os ≡ map (λ o. let named : NamedOverlap = record { outer = a; inner = c; overlap = o } in named) (map overlap_of os)
named_twice a c [] = refl
named_twice a c (o ∷ os) = ap (λ zs. record { outer = a; inner = c; overlap = overlap_of o } ∷ zs) (named_twice a c os)

pub returns : goal.returns
returns c =
    (map overlap_of c.in_ok-overlaps.overlaps.items, subst {A = Bool} (λ b. IsOverlapList c.args.outer_rule.now c.args.inner_rule.now b (map overlap_of c.in_ok-overlaps.overlaps.items)) c.eq.ensures c.in_ok-overlaps.ensures, named_twice c.args.outer c.args.inner c.in_ok-overlaps.overlaps.items)

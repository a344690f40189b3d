use Rattle.std.proofs.Common.{arith, ◌≡◌, ◌<◌, ◌≤◌, ◌+◌, ◌++◌, ◌∷◌, [], List, ℕ, true, length, get_or, take, sym, ap, ap₂, ◌∙◌}
use Rattle.std.specs.Prelude.{decimal, map}
use Rattle.std.specs.List.{list_all}
use Rattle.std.proofs.lemmas.List.{get_or-map, length-map, map-append, take_all, take_more}
use Rattle.kb_trace.specs.TraceText.{is_up_to, is_position}
use Rattle.kb_trace.proofs.StepForms.{placed, each_up_to, all_more, is_up_to-true, is_position-true}
use Rattle.kb_trace.proofs.fields.position_of.Goals as goal

pub returns-then-len-gt-LONGEST : goal.returns-then-len-gt-LONGEST
returns-then-len-gt-LONGEST c = λ p h e.
    let count = (placed p h).count in
    let long = ap length e in
    omega (arith, length-map p decimal)

pub loop-k-init : goal.loop-k-init
loop-k-init c = record { numbers = ap (map decimal) c.root-position.ensures; each = ap (list_all (is_up_to 8)) c.root-position.ensures }

pub returns-in_default : goal.returns-in_default
returns-in_default c = λ p h e.
    let k = c.loop-k.k in
    let long = ap length e in
    let inside : k < length p = omega (arith, length-map p decimal) in
    let u = each_up_to p (placed p h).each k inside in
    c.in_default.ensures (get_or p k 0) (record { low = u.low; high = u.high; spelling = sym (get_or-map decimal p k 0 [] inside) ∙ ap (λ (xs : List (List ℕ)). get_or xs k []) e ∙ sym c.field.ensures })

pub loop-k-preserved : goal.loop-k-preserved
loop-k-preserved c =
    let k = c.loop-k.k in
    let numbers = c.args.numbers.now in
    let n = c.in-Some.number in
    let t = c.in-Some.ensures in
    let inside : k < length numbers = omega arith in
    record {
      numbers = ap (map decimal) c.in_ok-push.ensures.ok ∙ map-append decimal c.loop-k.position (n ∷ []) ∙ ap₂ (λ (xs : List (List ℕ)) (x : List ℕ). xs ++ x ∷ []) c.loop-k.invariant.numbers (t.spelling ∙ c.field.ensures) ∙ sym (take_more numbers k [] inside);
      each = ap (list_all (is_up_to 8)) c.in_ok-push.ensures.ok ∙ all_more c.loop-k.position n c.loop-k.invariant.each (is_up_to-true 8 n t.low t.high);
    }

pub returns : goal.returns
returns c =
    let p = c.loop-k.position in
    let same : map decimal p ≡ c.args.numbers.now = c.loop-k.invariant.numbers ∙ take_all c.loop-k.k c.args.numbers.now (omega arith) in
    let long = ap length same in
    (is_position-true p (omega (arith, length-map p decimal)) c.loop-k.invariant.each, same)

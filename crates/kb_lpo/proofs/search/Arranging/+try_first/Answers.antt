use Rattle.std.proofs.Common.{sym, ◌∙◌, ◌++◌, ◌∷◌, [], ap, subst, arith, ◌≡◌, suc, ◌-◌, Contains, List, ℕ, Bool, true, false}
use Rattle.std.proofs.lemmas.List.{append_assoc}
use Rattle.std.specs.Prelude.{IfSome, IsSomeAnd}
use Rattle.kb_lpo.specs.Search.{numbers, Fits, IsSearched, IsTried}
use Rattle.kb_lpo.specs.Precedences.{LpoOrients}
use Rattle.kb_term.specs.Rule.{Rule}
use Rattle.kb_lemmas.proofs.Membership.{listed_or_not}
use Rattle.kb_lpo.proofs.First.{leaf, numbers_push, found_next, none_refused}
use Rattle.kb_lpo.proofs.search.Arranging.+try_first.Goals as goal

searched_tried : (rules : List Rule) (count left : ℕ) (xs ys : List ℕ) (b : Bool) → IsSearched rules count left xs ys b → IsTried rules count left xs ys b
searched_tried rules count left xs ys true h = h
searched_tried rules count left xs ys false h = h.0

pub returns-then-left-eq0 : goal.returns-then-left-eq0
returns-then-left-eq0 t c =
    let e = ap numbers c.deref.ensures.value in
    let xs = numbers c.args.prefix.now.items in
    searched_tried c.args.self.now.rules.now c.args.self.now.count c.args.left xs xs c.orients.result (leaf c.args.self.now.rules.now c.args.self.now.count c.args.left xs c.orients.result (grind arith) ((λ h. subst (λ z. LpoOrients z c.args.self.now.rules.now) e (c.orients.ensures.0 h)), (λ o. c.orients.ensures.1 (subst (λ z. LpoOrients z c.args.self.now.rules.now) (sym e) o))))

pub returns-then-branch : goal.returns-then-branch
returns-then-branch t c =
    let xs = numbers c.args.prefix.now.items in
    let y = c.loop-y.y in
    let rules = c.args.self.now.rules.now in
    let s = ap numbers c.deref-in-loop-y.ensures.value ∙ c.loop-y.invariant.0 in
    let u = subst (λ o. IfSome o (λ more. ¬ Contains (numbers c.deref-in-loop-y.result.now) y)) c.in-Some.is c.placed.ensures.unlisted in
    let p : numbers c.push.new.self.items ≡ xs ++ y ∷ [] = ap numbers c.in_ok-push.ensures.items ∙ numbers_push c.loop-y.prefix.items (record { 0 = y }) ∙ ap (λ z. z ++ y ∷ []) c.loop-y.invariant.0 in
    let n : suc (c.args.left - 1) ≡ c.args.left = grind arith in
    found_next rules c.args.self.now.count (c.args.left - 1) c.args.left y xs (numbers c.push.new.self.items) (numbers c.try_first.new.prefix.items) n p (grind arith) (subst (λ z. ¬ Contains z y) s u) c.loop-y.invariant.1 (subst (λ b. IsTried rules c.args.self.now.count (c.args.left - 1) (numbers c.push.new.self.items) (numbers c.try_first.new.prefix.items) b) c.if-branch.true c.in_ok-try_first.ensures)

pub try_first-requires : goal.try_first-requires
try_first-requires t c =
    let xs = numbers c.args.prefix.now.items in
    let y = c.loop-y.y in
    let rules = c.args.self.now.rules.now in
    let s = ap numbers c.deref-in-loop-y.ensures.value ∙ c.loop-y.invariant.0 in
    let u = subst (λ o. IfSome o (λ more. ¬ Contains (numbers c.deref-in-loop-y.result.now) y)) c.in-Some.is c.placed.ensures.unlisted in
    let p : numbers c.push.new.self.items ≡ xs ++ y ∷ [] = ap numbers c.in_ok-push.ensures.items ∙ numbers_push c.loop-y.prefix.items (record { 0 = y }) ∙ ap (λ z. z ++ y ∷ []) c.loop-y.invariant.0 in
    let sound : (rest : List ℕ) → LpoOrients (numbers c.push.new.self.items ++ rest) rules → Fits c.in-Some.more (numbers c.push.new.self.items ++ rest) = λ rest o.
    let e = ap (λ z. z ++ rest) p ∙ append_assoc xs (y ∷ []) rest in
    let d = ap (λ z. z ++ y ∷ rest) s in
    let q = subst (λ z. LpoOrients z rules) e o in
    subst (Fits c.in-Some.more) (d ∙ sym e) (subst (λ o. IsSomeAnd o (λ more. Fits more (numbers c.deref-in-loop-y.result.now ++ y ∷ rest))) c.in-Some.is (c.placed.ensures.sound rest u (subst (Fits c.args.known.now) (sym d) (c.requires (y ∷ rest) q)) (subst (λ z. LpoOrients z rules) (sym d) q))) in
    (grind arith, sound)

pub loop-y-preserved : goal.loop-y-preserved
loop-y-preserved t c =
    let xs = numbers c.args.prefix.now.items in
    let y = c.loop-y.y in
    let rules = c.args.self.now.rules.now in
    let s : numbers c.deref-in-loop-y.result.now ≡ xs = ap numbers c.deref-in-loop-y.ensures.value ∙ c.loop-y.invariant.0 in (
      c.loop-y.invariant.0,
      none_refused rules c.args.self.now.count (c.args.left - 1) y xs (listed_or_not xs y) (λ r n o.
          let d = ap (λ z. z ++ y ∷ r) s in
          subst (λ o. IsSomeAnd o (λ more. Fits more (numbers c.deref-in-loop-y.result.now ++ y ∷ r))) c.in_default.is (c.placed.ensures.sound r (λ k. n (subst (λ z. Contains z y) s k)) (subst (Fits c.args.known.now) (sym d) (c.requires (y ∷ r) o)) (subst (λ z. LpoOrients z rules) (sym d) o))) c.loop-y.invariant.1,
    )

pub loop-y-preserved-then-is_marked : goal.loop-y-preserved-then-is_marked
loop-y-preserved-then-is_marked t c =
    let xs = numbers c.args.prefix.now.items in
    let y = c.loop-y.y in
    let rules = c.args.self.now.rules.now in
    let k = subst (λ z. Contains z y) (ap numbers c.deref-2.ensures.value) (c.marks_of-listed.ensures y (c.is_marked.ensures c.if-is_marked.true)) in (
      c.loop-y.invariant.0,
      none_refused rules c.args.self.now.count (c.args.left - 1) y xs (listed_or_not xs y) (λ r n o. n k) c.loop-y.invariant.1,
    )

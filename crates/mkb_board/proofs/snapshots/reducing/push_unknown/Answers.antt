use Rattle.std.proofs.Common.{ℕ, ◌≡◌, ◌<◌, ◌++◌, ◌∷◌, ◌∙◌, [], List, length, get_or, ap, refl, sym, subst, arith, not, Bool, true, false}
use Rattle.std.specs.Prelude.{is_none}
use Rattle.kb_term.specs.declared.origin.RuleRef.{RuleRef}
use Rattle.mkb_model.specs.Plain.{known}
use Rattle.mkb_rules.specs.Known.{NodeOn}
use Rattle.mkb_board.specs.Snapshots.{AreWithin}
use Rattle.mkb_board.proofs.Viewed.{unknown_more, unknown_same, within_next}
use Rattle.mkb_board.proofs.snapshots.reducing.push_unknown.Goals as goal
use Rattle.mkb_board.proofs.snapshots.reducing.push_unknown.Goals.{then-is_none+in_ok-push, else-is_none}

pub loop-i-preserved : goal.loop-i-preserved
loop-i-preserved c =
    let b = c.args.state.now in
    let names = c.args.names.now in
    let i = c.loop-i.i in
    let side = c.args.side in
    let d : RuleRef = record { node = 0; dir = 0 } in
    let inside : i < length names = omega (arith, c.loop-i-test.true, c.loop-i.auto.i-end) in
    let told = c.side.ensures ∙ ap (λ (k : NodeOn). known k.board k.node.0 side (get_or names i d)) c.known_on-known.ensures in
    elim c.if-is_none.branch [
      | then-is_none+in_ok-push w ↦
          let test : is_none (known b c.args.n.0 side (get_or names i d)) ≡ true = ap is_none (sym told) ∙ ap not c.is_none.ensures ∙ ap (λ (z : Bool). not (not z)) w.if-is_none.true in
          let items : c.if-is_none.us.items ≡ c.loop-i.us.items ++ (side, i) ∷ [] = rw w.us-is w.in_ok-push.ensures.items in
          record {
            names = unknown_more b c.args.n.0 side names i d c.args.us.now.items c.loop-i.us.items c.if-is_none.us.items inside c.loop-i.invariant.names test items;
            within = subst {A = List (ℕ × ℕ)} (AreWithin (length names)) (sym items) (within_next (length names) c.loop-i.us.items side i c.loop-i.invariant.within c.requires.side inside);
          }
      | else-is_none w ↦
          let test : is_none (known b c.args.n.0 side (get_or names i d)) ≡ false = ap is_none (sym told) ∙ ap not c.is_none.ensures ∙ ap (λ (z : Bool). not (not z)) w.if-is_none.false in
          let items : c.if-is_none.us.items ≡ c.loop-i.us.items = rw w.us-is refl in
          record {
            names = unknown_same b c.args.n.0 side names i d c.args.us.now.items c.loop-i.us.items c.if-is_none.us.items inside c.loop-i.invariant.names test items;
            within = subst {A = List (ℕ × ℕ)} (AreWithin (length names)) (sym items) c.loop-i.invariant.within;
          }
    ]

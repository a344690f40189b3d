use Rattle.std.proofs.Common.{◌≡◌, length}
use Rattle.term_bank.specs.Chains.{hashes_of}
use Rattle.term_bank.proofs.Linking.{AreLinkedBelow}
use Rattle.term_bank.proofs.chains.link_all.Given as goal

-- the places so far are linked
abbrev pub invariant-loop-place : goal.invariant-loop-place
invariant-loop-place l = record {
  hashes : hashes_of l.links.items ≡ hashes_of l.initial.links.items;
  slots : length l.heads.items ≡ length l.initial.heads.items;
  below : AreLinkedBelow l.heads.items (hashes_of l.initial.links.items) l.links.items l.place;
}

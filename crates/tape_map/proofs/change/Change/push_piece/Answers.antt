use Rattle.std.proofs.Common.{◌≡◌, ℕ, ◌+◌, ◌^◌, ◌<◌, List, length, sym, ap, ◌∙◌, arith, length-append}
use Rattle.std.specs.Prelude.{slice_index}
use Rattle.std.specs.Global.{Vec}
use Rattle.list_laws.specs.Lists.{joined, listed}
use Rattle.list_laws.proofs.JoinedLists.{joined_step, joined_step_none, total_within}
use Rattle.session_slots.specs.Sessions.{session_slot}
use Rattle.session_slots.specs.SoundSessions.{slot_of_kind}
use Rattle.plan_model.specs.Plans.{slot, slots, words_in, place}
use Rattle.tape_map.specs.TapeMaps.{hidden_word, raised}
use Rattle.tape_map.specs.Changes.{growth_by, grown_words}
use Rattle.tape_map.proofs.ChangedPieces.{grown_long, pushed_like}
use Rattle.tape_map.proofs.change.Change.push_piece.Goals as goal
use Rattle.tape_map.proofs.change.Change.push_piece.Goals.{then-count-gt0+in_ok-push_words, else-count-gt0}

pub push_words-requires-clause-enough : goal.push_words-requires-clause-enough
push_words-requires-clause-enough c =
    let plan = c.args.plan.now in
    let self = c.args.self.now in
    let s = self.session in
    let p = c.args.p in
    let k = c.loop-k.k in
    let is : slot_of_kind c.slot_kind-kind.result ≡ slot plan s k = c.slot_kind-kind.ensures.is ∙ ap (λ x. session_slot x k) c.part-part.ensures in
    let count : c.words_in-count.result ≡ words_in plan s p (slot plan s k) = c.words_in-count.ensures ∙ ap (words_in plan s p) is in
    let lk : k < slots plan s = omega (arith, c.loop-k-test.true, c.slots-k-end.ensures) in
    let within = total_within (slots plan s) k (λ j. words_in plan s p (slot plan s j)) lk in
    let long = ap length c.loop-k.invariant ∙ length-append c.args.changed.now.items (joined k (grown_words plan c.args.group.mask self c.args.tape.now p)) in
    let pieces = grown_long plan c.args.group.mask self c.args.tape.now p k in
    omega (arith, c.requires.before, c.requires.tape, count, within, long, pieces)

pub loop-k-preserved : goal.loop-k-preserved
loop-k-preserved c =
    let plan = c.args.plan.now in
    let self = c.args.self.now in
    let s = self.session in
    let p = c.args.p in
    let k = c.loop-k.k in
    let mask = c.args.group.mask in
    let tape : List ℕ = c.args.tape.now in
    let words_of : ℕ → List ℕ = grown_words plan mask self tape p in
    let is : slot_of_kind c.slot_kind-kind.result ≡ slot plan s k = c.slot_kind-kind.ensures.is ∙ ap (λ x. session_slot x k) c.part-part.ensures in
    let count : c.words_in-count.result ≡ words_in plan s p (slot plan s k) = c.words_in-count.ensures ∙ ap (words_in plan s p) is in
    let long = ap length c.loop-k.invariant ∙ length-append c.args.changed.now.items (joined k words_of) in
    let pieces = grown_long plan mask self tape p k in
    let at : length c.loop-k.changed.items ≡ place plan p s k = omega (arith, c.requires.before, long, pieces) in
    elim c.if-count-gt0.branch [
      | then-count-gt0+in_ok-push_words w ↦
          let added : listed c.words_in-count.result (raised (2 ^ c.ring-ring.result) w.hidden_word-place.result w.growth-growth.result (λ i. slice_index tape (length c.loop-k.changed.items + i))) ≡ words_of k =
          pushed_like tape _ _ _ _ _ _ _ _ _ _ count (ap (λ b. 2 ^ b) c.ring-ring.ensures.is)
          (w.hidden_word-place.ensures mask c.requires.hidden ∙ ap (hidden_word plan mask p) is)
          (w.growth-growth.ensures.is ∙ ap (growth_by plan mask self p) is) at in
          ap (λ (v : Vec ℕ). v.items) w.changed-is ∙ w.in_ok-push_words.ensures
          ∙ joined_step k words_of c.args.changed.now.items c.loop-k.changed.items _ c.loop-k.invariant added
      | else-count-gt0 w ↦
          let none : words_in plan s p (slot plan s k) ≡ 0 = omega (arith, count, w.if-count-gt0.false) in
          ap (λ (v : Vec ℕ). v.items) w.changed-is
          ∙ joined_step_none k words_of c.args.changed.now.items c.loop-k.changed.items c.loop-k.invariant
          (sym (ap (λ n. listed n (raised (2 ^ plan.bits) (hidden_word plan mask p (slot plan s k)) (growth_by plan mask self p (slot plan s k)) (λ i. slice_index tape (place plan p s k + i)))) none))
    ]

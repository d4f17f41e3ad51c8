use Rattle.std.proofs.Common.{◌≡◌, ℕ, ◌+◌, ◌%◌, ◌^◌, [], ◌∷◌, if◌then◌else◌, length, nat_eq, ap, ◌∙◌, arith, length-append}
use Rattle.std.specs.Prelude.{slice_index}
use Rattle.list_laws.specs.Lists.{listed}
use Rattle.list_laws.proofs.JoinedLists.{length-listed, joined_step}
use Rattle.tape_map.specs.TapeMaps.{raised}
use Rattle.tape_map.proofs.change.push_words.Goals as goal

pub bounds-tape-len : goal.bounds-tape-len
bounds-tape-len c =
    let before = c.args.changed.now.items in
    let f : ℕ → ℕ = raised (2 ^ c.args.ring) c.args.place c.args.growth (λ i. slice_index c.args.tape.now (length before + i)) in
    let long = ap length c.loop-i.invariant ∙ length-append before (listed c.loop-i.i f) in
    let many = length-listed c.loop-i.i f in
    omega (arith, c.len.ensures, c.loop-i.changed.ok.0, c.loop-i-test.true, c.requires.enough)

pub offset_bounds-tape-len : goal.offset_bounds-tape-len
offset_bounds-tape-len c =
    let before = c.args.changed.now.items in
    let f : ℕ → ℕ = raised (2 ^ c.args.ring) c.args.place c.args.growth (λ i. slice_index c.args.tape.now (length before + i)) in
    let long = ap length c.loop-i.invariant ∙ length-append before (listed c.loop-i.i f) in
    let many = length-listed c.loop-i.i f in
    let fits = c.type_inv.tape in
    omega (arith, c.len.ensures, c.loop-i.changed.ok.0, c.loop-i-test.true, c.requires.enough)

pub loop-i-preserved : goal.loop-i-preserved
loop-i-preserved c =
    let before = c.args.changed.now.items in
    let i = c.loop-i.i in
    let x : ℕ → ℕ = λ i. slice_index c.args.tape.now (length before + i) in
    let f : ℕ → ℕ = raised (2 ^ c.args.ring) c.args.place c.args.growth x in
    let long = ap length c.loop-i.invariant ∙ length-append before (listed i f) in
    let many = length-listed i f in
    let at : c.len.result ≡ length before + i = omega (arith, c.len.ensures, c.loop-i.changed.ok.0) in
    let word : c.grown.result ≡ f i = c.grown.ensures ∙ ap (λ k. if nat_eq i c.args.place then (slice_index c.args.tape.now k + c.args.growth) % 2 ^ c.args.ring else slice_index c.args.tape.now k) at in
    c.in_ok-push.ensures.items ∙ joined_step i (λ i. f i ∷ []) before c.loop-i.changed.items (c.grown.result ∷ []) c.loop-i.invariant (ap (λ z. z ∷ []) word)

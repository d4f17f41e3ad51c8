-- A node at the end of all its sessions is done.
use Rattle.std.proofs.Common.{◌≡◌, ◌≢◌, ℕ, zero, suc, ◌+◌, ◌<◌, List, [], ◌∷◌, length, map, get_or, refl, sym, ap, ◌∙◌, arith, Option, Some, None}
use Rattle.std.specs.List.{slice_get}
use Rattle.std.specs.Prelude.{slice_index, slice_index_or, Ok}
use Rattle.std.proofs.lemmas.Bool.{cases_lt}
use Rattle.std.proofs.lemmas.List.{get_or_past}
use Rattle.std.proofs.lemmas.Option.{slice_get-get_or}
use Rattle.std.proofs.Math.ListN.{length-map}
use mathlib.Core.Logic.{inl, inr}
use Rattle.plan_model.specs.declared.key.Key.{Key}
use Rattle.plan_model.specs.Messages.{messages}
use Rattle.plan_model.specs.Numbers.{message}
use Rattle.message_board.specs.Plain.{plain_cell}
use Rattle.program_model.specs.declared.instruction.Instruction.{Instruction}
use Rattle.program_model.specs.declared.instruction.Instruction.TheVariants.{Post, Take, End}
use Rattle.program_model.specs.Programs.{program, at}
use Rattle.program_model.specs.States.{new_state, state}
use Rattle.program_model.proofs.InstructionLists.{state_is, run_all}
use Rattle.party_desk.specs.declared.desk.Desk.{Desk}
use Rattle.party_desk.specs.Desks.{IsDesk, output_at}
use Rattle.program_laws.specs.Meets.{local_given}
use Rattle.program_laws.specs.Parts.{IsPart}
use Rattle.program_laws.proofs.LocalPrograms.{met}
use Rattle.program_laws.specs.Once.{take_session}
use Rattle.plan_model.specs.Plans.{Plan, IsPlan}
use Rattle.program_laws.proofs.TakenMessages.{taken_there}
use Rattle.program_laws.proofs.SentMessages.{there}
use Rattle.program_laws.proofs.OncePosted.{once}
use Rattle.program_laws.proofs.OpenedOutputs.{opens_right}
use Rattle.program_laws.proofs.PartLaws.{part_plan, part_words}
use Rattle.outer_io.specs.Links.{LinksReading}
use Rattle.outer_io.specs.Sink.{added}
use Rattle.node_talk.specs.Talks.{Node, acts, IsPeer, own_word, expected, place_of}
use Rattle.node_talk.specs.PeerLinks.{out_to}
use Rattle.node_talk.specs.Runs.{Results, IsDone, TalkedThrough, word_kept, output_of}
use Rattle.node_talk.proofs.MessageOrder.{talk_is_said}
use Rattle.node_talk.proofs.ExpectedPlaces.{Expected, expected_there}
use Rattle.node_talk.proofs.ActPlaces.{at_act, within_acts}
use Rattle.link_reader.specs.NodeReaders.{ReadsFrom, HasFirstWords}
use Rattle.link_reader.proofs.Runs.{talks_through}
use Rattle.node_run.specs.Mail.{Mail, outlet_to}
use Rattle.node_run.specs.Progress.{Begin, Agrees, InOrder, before_session}
use Rattle.node_run.proofs.KnownWords.{known, agrees_known}

-- all sessions are done, all that is expected was read, each word that is kept of a message to the party was heard, and
-- these are the words and the outputs of all desks
pub record RanToEnd (n : Node) (start : Begin) (after : LinksReading) (ds : List Desk) (now : Mail) (r : Results)
    : Type 0 where
  pub order : InOrder n (length n.world.plan.sessions) start ds now
  pub told : (q : ℕ) → IsPeer n q → (out_to n after q).told ≡ (outlet_to now q).told
  pub words : ℕ → List ℕ
  pub read : (q : ℕ) → IsPeer n q → ReadsFrom n q (words q) start.links after (Ok tt)
  pub heard : (m v : ℕ) → (message n.world.plan m).receiver ≡ n.me → (message n.world.plan m).sender ≢ n.me → plain_cell now.words.cells m ≡ Some v
      → (place_of n m < length (words (message n.world.plan m).sender))
      × (v ≡ slice_index (words (message n.world.plan m).sender) (place_of n m))
  pub kept_words : r.words ≡ now.words.cells
  pub kept_outputs : r.outputs ≡ map (λ (d : Desk). d.memory.outputs.items) ds

cell_is : (cells : List (Option ℕ)) (m : ℕ) → slice_index_or cells m None ≡ plain_cell cells m
cell_is [] m = refl
cell_is (None ∷ cells) zero = refl
cell_is (Some v ∷ cells) zero = refl
cell_is (x ∷ cells) (suc m) = cell_is cells m

element : {A B : Type 0} (f : A → B) (xs : List A) (j : ℕ) (e : B) → j < length xs → (a : A) × ((d : A) → get_or xs j d ≡ a) × (slice_index_or (map f xs) j e ≡ f a)
element f [] j e l = absurd (omega arith)
element f (x ∷ xs) zero e l = (x, (λ d. refl), refl)
element f (x ∷ xs) (suc j) e l = element f xs j e (omega arith)

-- an instruction that isn't the end stands in its list
inside : (es : List Instruction) (q : ℕ) (i : Instruction) → at es q ≡ i → (End ≡ i → ⊥) → q < length es
inside es q i is ne = elim (cases_lt q (length es)) [
  | inl l ↦ l
  | inr past ↦ absurd (ne (sym (get_or_past es q End past) ∙ is))
]

-- a message is taken in a session of the plan
take_there : (plan : Plan) (m : ℕ) → IsPlan plan → m < length (messages plan) → take_session plan m < length plan.sessions
take_there plan m h l =
    let key : Key = message plan m in
    let is = there plan m l in
    (taken_there plan h key.session key.slot is.session_within is.slot_within (omega (arith, is.place_within))).session_there

module _ (n : Node) (start : Begin) (after : LinksReading) (ds : List Desk) (now : Mail) (r : Results) (h : RanToEnd n start after ds now r) where
  part : IsPart n.world n.me
  part = h.order.going.own.part

  abbrev cells : List (Option ℕ)
  cells = now.words.cells

  abbrev got : Key → ℕ
  got = known n now.words.cells

  agrees : Agrees n now.words.cells (known n now.words.cells)
  agrees = agrees_known n now.words.cells h.order.going.own.cells

  found : (m : ℕ) → m < length (messages n.world.plan) → (message n.world.plan m).receiver ≡ n.me → (v : ℕ) × (plain_cell now.words.cells m ≡ Some v)
  found m lm to =
      let key : Key = message n.world.plan m in
      let valid = part_plan n.world n.me part in
      let o = once n.world.plan m valid lm in
      let t : ℕ = take_session n.world.plan m in
      let there = take_there n.world.plan m valid lm in
      let takes' : at (program n.world.plan n.me t) o.taken.position ≡ Take m key.share = ap (λ z. at (program n.world.plan z t) o.taken.position) (sym to) ∙ o.taken.stands in
      let less : o.taken.position < length (program n.world.plan n.me t) = inside (program n.world.plan n.me t) o.taken.position (Take m key.share) takes' (λ f. cc) in
      let lk : before_session n t + o.taken.position < length (acts n) = (let a = within_acts n t (suc o.taken.position) there (omega arith) in omega arith) in
      h.order.going.taken (before_session n t + o.taken.position) m key.share lk (at_act n t o.taken.position there less ∙ takes')

  -- a word that it sent is kept, and is its own
  sent_word : (m : ℕ) → m < length (messages n.world.plan) → (message n.world.plan m).sender ≡ n.me → plain_cell now.words.cells m ≡ Some (own_word n (known n now.words.cells) (message n.world.plan m))
  sent_word m lm from =
      let key : Key = message n.world.plan m in
      let o = once n.world.plan m (part_plan n.world n.me part) lm in
      let posts' : at (program n.world.plan n.me key.session) o.posted.position ≡ Post m key.share = ap (λ z. at (program n.world.plan z key.session) o.posted.position) (sym from) ∙ o.posted.stands in
      let less : o.posted.position < length (program n.world.plan n.me key.session) = inside (program n.world.plan n.me key.session) o.posted.position (Post m key.share) posts' (λ f. cc) in
      let lk : before_session n key.session + o.posted.position < length (acts n) = (let a = within_acts n key.session (suc o.posted.position) o.session_there (omega arith) in omega arith) in
      let v = h.order.going.posted (before_session n key.session + o.posted.position) m key.share lk (at_act n key.session o.posted.position o.session_there less ∙ posts') in
      v.1 ∙ ap Some (h.order.going.own_words.word m v.0 v.1 from (known n now.words.cells) agrees)

  first_words : (q : ℕ) → IsPeer n q → HasFirstWords n q (known n now.words.cells) (length (expected n q)) (h.words q)
  first_words q peer = (
    (let a = (h.read q peer).1 in omega arith),
    λ place l.
        let x : Expected n q place = expected_there n q place l in
        let v = found x.number x.there x.receiver in
        let e = h.heard x.number v.0 x.receiver (λ from. peer.1 (sym x.sender ∙ from)) v.1 in
        ap (known n now.words.cells) (sym x.same) ∙ agrees x.number v.0 x.receiver v.1 ∙ e.1 ∙ ap (λ z. slice_index (h.words z) (place_of n x.number)) x.sender ∙ ap (slice_index (h.words q)) x.place_is,
  )

  talked : TalkedThrough n (known n now.words.cells) start.links after
  talked = talks_through n (known n now.words.cells) start.links after (record {
    told = λ q peer.
        h.told q peer ∙ h.order.going.sent (known n now.words.cells) agrees q peer ∙ ap (added (out_to n start.links q).told) (talk_is_said n q (own_word n (known n now.words.cells)));
    words = h.words;
    read = h.read;
    agrees = first_words;
  })

  -- ---- outputs

  output_is : (s o : ℕ) → s < length n.world.plan.sessions → (d : Desk) × (slice_get ds s ≡ Some d) × (output_of r s o ≡ output_at d o)
  output_is s o ls =
      let x = element (λ (d : Desk). d.memory.outputs.items) ds s [] (let a = h.order.many in omega arith) in
      (x.0, slice_get-get_or ds s x.0 (let a = h.order.many in omega arith) ∙ ap Some (x.1 x.0), ap (λ z. slice_index_or (slice_index_or z s []) o None) h.kept_outputs ∙ ap (λ z. slice_index_or z o None) x.2)

  desk_there : (s : ℕ) (d : Desk) → s < length n.world.plan.sessions → slice_get ds s ≡ Some d → IsDesk (local_given n.world (known n now.words.cells) s n.me) d
  desk_there s d ls is = h.order.done (known n now.words.cells) agrees s d ls is

  pub done : IsDone n (known n now.words.cells) r
  done = record {
    message_count = ap length h.kept_words ∙ h.order.going.own.cells;
    session_count = ap length h.kept_outputs ∙ length-map ds (λ (d : Desk). d.memory.outputs.items) ∙ h.order.many;
    words = λ m lm to. let v = found m lm to in kept_is m ∙ v.1 ∙ ap Some (sym (agrees m v.0 to v.1));
    sent = λ m lm from. kept_is m ∙ sent_word m lm from;
    outputs = λ s o ls lo read.
        let x = output_is s o ls in
        let desk = desk_there s x.0 ls x.1 in
        let end : x.0.position ≡ length (program n.world.plan n.me s) = h.order.ended s x.0 ls x.1 in
        let l = local_given n.world (known n now.words.cells) s n.me in
        let es = program n.world.plan n.me s in
        x.2 ∙ desk.memory.outputs o ∙ ap (λ q. (state l q).outputs o) end ∙ ap (λ σ. σ.outputs o) (state_is l (length es) ∙ run_all l es new_state)
        ∙ (met n.world part.sound (known n now.words.cells) s n.me ls part.party (part_words n.world n.me part s)).1.outputs o lo read;
    no_word = λ m ne ns. kept_is m ∙ none_there (plain_cell now.words.cells m) m refl ne ns;
    no_output = λ s o v ls e.
        let x = output_is s o ls in
        let desk = desk_there s x.0 ls x.1 in
        (opens_right n.world part.sound (known n now.words.cells) s n.me ls part.party (part_words n.world n.me part s) x.0.position o v (sym (desk.memory.outputs o) ∙ sym x.2 ∙ e)).0;
  }
    where
      kept_is : (m : ℕ) → word_kept r m ≡ plain_cell now.words.cells m
      kept_is m = ap (λ z. slice_index_or z m None) h.kept_words ∙ cell_is now.words.cells m

      none_there : (o : Option ℕ) (m : ℕ) → plain_cell now.words.cells m ≡ o → (message n.world.plan m).receiver ≢ n.me → (message n.world.plan m).sender ≢ n.me → o ≡ None
      none_there None m is ne ns = refl
      none_there (Some v) m is ne ns = absurd (ns (h.order.going.own_words.sender m v is ne))

  pub is_done : (got : Key → ℕ) × IsDone n got r × TalkedThrough n got start.links after
  is_done = (known n now.words.cells, done, talked)

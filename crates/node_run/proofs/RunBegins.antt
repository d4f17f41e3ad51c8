-- How a run begins: with what was kept ready, nothing is done yet.
use Rattle.std.proofs.Common.{◌≡◌, ◌≢◌, ℕ, ◌+◌, ◌-◌, ◌<◌, List, [], length, get_or, refl, sym, ap, ◌∙◌, subst, arith, Some, None}
use Rattle.std.specs.List.{slice_get}
use Rattle.std.proofs.lemmas.Option.{slice_get_within, get_or_from_slice_get}
use Rattle.std.specs.Prelude.{slice_index_or}
use Rattle.std.proofs.Math.ListN.{length-map}
use Rattle.atomic_table.specs.Seated.{TableId}
use Rattle.frame_code.specs.declared.framing.FrameForm.{FrameForm}
use Rattle.plan_model.specs.Plans.{Plan}
use Rattle.plan_model.specs.Messages.{messages}
use Rattle.plan_model.specs.Numbers.{message}
use Rattle.program_laws.specs.Parts.{IsPart}
use Rattle.desk_laws.proofs.Elements.{element_there, stands_at}
use Rattle.outer_io.specs.Links.{LinksReading, HasPeers}
use Rattle.outer_io.specs.Outlet.{OutletReading}
use Rattle.node_talk.specs.Talks.{Node, messages_between}
use Rattle.node_talk.specs.PeerLinks.{place_among, no_outlet, out_to}
use Rattle.node_talk.proofs.ExpectedPlaces.{placed}
use Rattle.link_reader.specs.Expected.{HasPlaces, TalkModel}
use Rattle.node_run.specs.Mail.{Mail, BoxModel, IsMail, no_box, outlet_to}
use Rattle.node_run.specs.Progress.{Begin, Greeted, AllGreeted, ids_of}
use Rattle.node_run.specs.Remains.{ReaderPartsModel, party_at, IsFor, MayRun}
use Rattle.node_run.specs.Ready.{NodePart, IsNodeOf, Kept, IsNodeReady, ArePeersReady, IsPeerReady}
use Rattle.node_run.proofs.CellChanges.{place_within}
use Rattle.link_reader.proofs.ExpectedMessages.{between_parties}
use Rattle.node_run.proofs.PeerEnds.{party_there}
use Rattle.node_run.proofs.ReaderRuns.{id_of}
use Rattle.node_run.proofs.NodeParts.{is_part, new_desk, new_position}

-- what is kept when a run begins, over these outlets
abbrev pub first_mail : NodePart → Kept → List OutletReading → Mail
first_mail part kept outlets =
    record {
      plan = part.plan;
      me = part.me;
      form = part.form;
      outlets = outlets;
      words = kept.words;
      boxes = kept.boxes;
      places = kept.places;
      failed = None;
    }

-- the peer at a place is ready
pub ready_at : (plan : Plan) (me : ℕ) (parker : TableId) (digest : List ℕ) (form : FrameForm) (count : ℕ) (boxes : List BoxModel) (readers : List ReaderPartsModel) → ArePeersReady plan me parker digest form count boxes readers → (place : ℕ) (d : ReaderPartsModel) → place < length readers
    → IsPeerReady plan me parker digest form (party_at me place) (slice_index_or boxes place no_box) (get_or readers place d)
ready_at plan me parker digest form count boxes readers h place d l =
    let x = element_there readers place l in
    subst (IsPeerReady plan me parker digest form (party_at me place) (slice_index_or boxes place no_box)) (sym (stands_at readers place x.0 d x.1).1) (h.each place x.0 x.1)

-- what is expected of the peer at a place, by equal parts
abbrev talk_at : Plan → ℕ → List ℕ → FrameForm → ℕ → TalkModel
talk_at plan me digest form k =
    record { peer = party_at me k; me = me; digest = digest; bits = plan.bits; keys = messages_between plan (party_at me k) me; form = form }

talk_of : (plan plan' : Plan) (me me' : ℕ) (digest digest' : List ℕ) (form form' : FrameForm) (k : ℕ) → plan ≡ plan' → me ≡ me' → digest ≡ digest' → form ≡ form' → talk_at plan me digest form k ≡ talk_at plan' me' digest' form' k
talk_of plan plan' me me' digest digest' form form' k p q r f =
    ap (λ z. talk_at z me digest form k) p ∙ ap (λ z. talk_at plan' z digest form k) q ∙ ap (λ z. talk_at plan' me' z form k) r ∙ ap (λ z. talk_at plan' me' digest' z k) f

module _ (part : NodePart) (kept : Kept) (h : IsNodeReady part kept) where
  -- some party of the plan
  some : Node
  some = record { world = record { plan = part.plan; inputs = []; tapes = [] }; me = part.me; digest = []; form = part.form }

  pub is_mail : (outlets : List OutletReading) → length outlets ≡ part.plan.parties - 1 → IsMail (first_mail part kept outlets)
  unfolding some
  is_mail outlets many =
      let party = h.fits.party in
      let p : HasPlaces some kept.places = h.places some refl refl in
      record {
        sound = h.fits.sound;
        me = party;
        outlets = omega (arith, many, party);
        boxes = (let b = h.peers.box_count in omega (arith, b, party));
        cells = h.words.count;
        bits = h.words.bits;
        places = p.count;
        placed = λ m from. p.each m from.there;
        room = λ m from.
            let lm = from.there in
            let to = from.receiver in
            let b = between_parties part.plan h.fits.sound m lm in
            let q : ℕ = (message part.plan m).sender in
            let other : q ≢ part.me = from.sender in
            let less : place_among part.me q < length kept.readers =
            place_within part.me q part.plan.parties (length kept.readers) b.sender other party (let r = h.peers.reader_count in omega (arith, r, party)) in
            let x = element_there kept.readers (place_among part.me q) less in
            let ready = h.peers.each (place_among part.me q) x.0 x.1 in
            let places : (slice_index_or kept.boxes (place_among part.me q) no_box).places ≡ length (messages_between part.plan q part.me) =
            ready.places ∙ ap (λ z. length (messages_between part.plan z part.me)) (party_there part.me q other) in
            let at = p.each m lm in
            let within = (placed some m lm to).0 in
            omega (arith, places, at, within);
        read = λ m v from e. absurd (let f : None ≡ Some v = sym (h.words.empty m) ∙ e in cc);
      }

  -- over an equal plan
  pub is_mail_at : (plan : Plan) → plan ≡ part.plan → (outlets : List OutletReading) → length outlets ≡ part.plan.parties - 1
      → IsMail (record { plan = plan; me = part.me; form = part.form; outlets = outlets; words = kept.words; boxes = kept.boxes; places = kept.places; failed = None })
  is_mail_at plan same outlets many =
      subst (λ z. IsMail (record { plan = z; me = part.me; form = part.form; outlets = outlets; words = kept.words; boxes = kept.boxes; places = kept.places; failed = None })) (sym same) (is_mail outlets many)

  module _ (n : Node) (of : IsNodeOf part n) (before : LinksReading) (peers : HasPeers (part.plan.parties - 1) before) where
    own_part : IsPart n.world n.me
    own_part = is_part part h.fits n of

    -- what the run begins with
    abbrev begin : Begin
    begin = record { links = before; ids = ids_of kept.boxes }

    -- no hello is sent yet
    pub greeted : Greeted n 0 (record { links = before; ids = ids_of kept.boxes }) (first_mail part kept before.outlets)
    greeted = record {
      own = record {
        part = is_part part h.fits n of;
        digest = ap (λ z. length z) of.digest ∙ h.fits.digest;
        plan = sym of.plan;
        me = sym of.me;
        form = sym of.form;
        ids = refl;
        cells = h.words.count ∙ ap (λ z. length (messages z)) (sym of.plan);
      };
      words = h.words.empty;
      sent = λ r peer l. absurd (omega arith);
      calm = λ r peer. ap (λ z. z.faults) (same r);
      room = λ r peer l. absurd (omega arith);
      others = λ r peer l. same r;
      quiet = refl;
    }
      where
        same : (r : ℕ) → outlet_to (first_mail part kept before.outlets) r ≡ out_to n before r
        same r = ap (λ z. (slice_index_or before.outlets (place_among z r) no_outlet).sink) (sym of.me)

    pub greeted_at : (plan : Plan) → plan ≡ part.plan → Greeted n 0 (record { links = before; ids = ids_of kept.boxes })
        (record { plan = plan; me = part.me; form = part.form; outlets = before.outlets; words = kept.words; boxes = kept.boxes; places = kept.places; failed = None })
    greeted_at plan same =
        subst (λ z. Greeted n 0 (record { links = before; ids = ids_of kept.boxes }) (record { plan = z; me = part.me; form = part.form; outlets = before.outlets; words = kept.words; boxes = kept.boxes; places = kept.places; failed = None })) (sym same) greeted

    pub had_peers : HasPeers (n.world.plan.parties - 1) before
    had_peers = subst (λ z. HasPeers (z.parties - 1) before) (sym of.plan) peers

    -- all hellos are sent, and the readers may be started
    pub may_run : (now : Mail) → AllGreeted n (record { links = before; ids = ids_of kept.boxes }) now → MayRun n (record { links = before; ids = ids_of kept.boxes }) 0 kept.readers kept.desks now
    may_run now g = record {
      order = record {
        many = h.desks.count ∙ ap (λ z. length z.sessions) (sym of.plan);
        done = λ got ag t d l is. absurd (omega arith);
        ended = λ t d l is. absurd (omega arith);
        new = λ got t d l is. new_desk part h.fits n of kept.desks h.desks got t d is;
        still = λ t d l is. new_position part h.fits n of kept.desks h.desks t d is;
        going = g.going;
      };
      empty = g.words;
      out = g.out;
      ids = (let a = boxes in let b = h.peers.box_count in let c = h.fits.party in let d = ap (λ z. z.parties) of.plan in omega (arith, a, b, c, d));
      count = (let a = boxes in let b = h.peers.box_count in let c = h.peers.reader_count in omega (arith, a, b, c));
      parts = λ k d is. subst (λ z. IsFor n (record { links = before; ids = ids_of kept.boxes }) z d) (let at : k ≡ 0 + k = omega arith in at) (is_for k d is);
    }
      where
        boxes : length (ids_of kept.boxes) ≡ length kept.boxes
        boxes = length-map kept.boxes (λ (b : BoxModel). b.id)

        is_for : (k : ℕ) (d : ReaderPartsModel) → slice_get kept.readers k ≡ Some d → IsFor n (record { links = before; ids = ids_of kept.boxes }) k d
        is_for k d is =
            let there = get_or_from_slice_get kept.readers k d d is in
            let r = ready_at part.plan part.me kept.parker part.digest part.form (part.plan.parties - 1) kept.boxes kept.readers h.peers k d (slice_get_within kept.readers k d is) in
            record {
              talk = ap (λ (x : ReaderPartsModel). x.talk) (sym there) ∙ r.talk ∙ talk_of part.plan n.world.plan part.me n.me part.digest n.digest part.form n.form k (sym of.plan) (sym of.me) (sym of.digest) (sym of.form);
              id = ap (λ (x : ReaderPartsModel). x.id) (sym there) ∙ r.id ∙ id_of kept.boxes k;
            }

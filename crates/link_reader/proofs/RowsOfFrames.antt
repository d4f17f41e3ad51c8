-- Words that come one after another.
use Rattle.std.proofs.Common.{◌≡◌, ℕ, ◌<◌, ◌^◌, List, [], ◌∷◌, ◌++◌, length, refl, sym, ap, ◌∙◌, arith, append_assoc, length-append}
use Rattle.std.specs.Prelude.{slice_index_or}
use Rattle.std.proofs.lemmas.List.{append-nil}
use Rattle.plan_model.specs.declared.key.Key.{Key}
use Rattle.plan_model.specs.Numbers.{no_key}
use Rattle.list_laws.proofs.JoinedLists.{every_append}
use Rattle.outer_io.specs.Inlet.{InletReading, ahead}
use Rattle.outer_io.proofs.FilledPlaces.{ahead-append}
use Rattle.frame_code.specs.declared.framing.Framing.{Framing}
use Rattle.frame_code.specs.Frames.{frame}
use Rattle.link_reader.specs.Expected.{TalkModel, framing_of, key_at}
use Rattle.link_reader.specs.Heard.{hello_of, Gave, StaysSteady}
use Rattle.link_reader.specs.ReadWords.{framed, WordsCame}

framed_none : (f : Framing) (keys : List Key) → framed f keys [] ≡ []
framed_none f [] = refl
framed_none f (key ∷ keys) = refl

framed_more : (f : Framing) (keys : List Key) (words : List ℕ) (word : ℕ) → length words < length keys → framed f keys (words ++ word ∷ []) ≡ framed f keys words ++ frame f (slice_index_or keys (length words) no_key) word
framed_more f [] words word l = absurd (omega arith)
framed_more f (key ∷ keys) [] word l = ap (λ z. frame f key word ++ z) (framed_none f keys) ∙ append-nil (frame f key word)
framed_more f (key ∷ keys) (w ∷ words) word l = ap (λ z. frame f key w ++ z) (framed_more f keys words word (omega arith)) ∙ sym (append_assoc (frame f key w) (framed f keys words) (frame f (slice_index_or keys (length words) no_key) word))

-- the hello came, and no word yet
pub hello_came : (talk : TalkModel) (before after : InletReading) → Gave (hello_of talk) before after → WordsCame talk [] before after
hello_came talk before after gave =
    record {
      few = omega arith;
      small = tt;
      told = gave.told ∙ ap (λ z. ahead z after.told) (sym (append-nil (hello_of talk)) ∙ ap (λ z. hello_of talk ++ z) (sym (framed_none (framing_of talk) talk.keys)));
      faults = gave.faults;
      ended = gave.ended;
    }

-- one more word came
pub came_more : (talk : TalkModel) (words : List ℕ) (word : ℕ) (before now after : InletReading) → WordsCame talk words before now → length words < length talk.keys → word < 2 ^ talk.bits
    → Gave (frame (framing_of talk) (key_at talk (length words)) word) now after → WordsCame talk (words ++ word ∷ []) before after
came_more talk words word before now after h few small gave =
    let next : List ℕ = frame (framing_of talk) (key_at talk (length words)) word in
    record {
      few = omega (arith, few, length-append words (word ∷ []));
      small = every_append (λ w. w < 2 ^ talk.bits) words (word ∷ []) h.small (small, tt);
      told = h.told ∙ ap (ahead (hello_of talk ++ framed (framing_of talk) talk.keys words)) gave.told ∙ ahead-append (hello_of talk ++ framed (framing_of talk) talk.keys words) next after.told
          ∙ ap (λ z. ahead z after.told) (append_assoc (hello_of talk) (framed (framing_of talk) talk.keys words) next ∙ ap (λ z. hello_of talk ++ z) (sym (framed_more (framing_of talk) talk.keys words word few)));
      faults = gave.faults ∙ h.faults;
      ended = gave.ended ∙ h.ended;
    }

pub stays_steady : (before now after : InletReading) → StaysSteady before now → StaysSteady now after → StaysSteady before after
stays_steady before now after first second = record {
  faults_grow = (let a = first.faults_grow in let b = second.faults_grow in omega arith);
  steady = λ is. let a = first.steady is in let b = second.steady a.0 in (b.0, b.1 ∙ a.1);
}

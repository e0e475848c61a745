use Rattle.std.proofs.Common.{◌≡◌, Ok, map}
use Rattle.nc_blocks.specs.Indices.{EntryFits}
use Rattle.nc_blocks.specs.Statement.{frame_entry}
use Rattle.nc_forms.specs.Frames.{frame_word_at}
use Rattle.nc_blocks.proofs.Listing.{list_more, list_last, fits_more}
use Rattle.nc_forms.proofs.frames.frame_words_at.Goals as goal

pub returns-then-not-more-clause-exact : goal.returns-then-not-more-clause-exact
returns-then-not-more-clause-exact c =
    let read : frame_word_at c.args.words.now (map frame_entry c.loop-list.list.items) c.loop-list.at
    ≡ Ok (frame_entry c.in_ok-word.word, c.in_ok-word.more, c.in_ok-word.end) = cc c.in_ok-word.ensures.exact in
    list_last (frame_word_at c.args.words.now) frame_entry c.args.words.now c.args.start c.loop-list.at c.in_ok-word.end
    c.loop-list.list.items _ c.in_ok-word.word c.in_ok-word.more c.loop-list.invariant.so_far read
    c.if-not-more.true c.in_ok-word.ensures.within.0 c.in_ok-word.ensures.within.1 c.in_ok-push.ensures.items

pub returns-then-not-more-clause-indices : goal.returns-then-not-more-clause-indices
returns-then-not-more-clause-indices c =
    fits_more EntryFits frame_entry c.loop-list.list.items _ c.in_ok-word.word c.loop-list.invariant.fits c.in_ok-word.ensures.indices c.in_ok-push.ensures.items

pub loop-list-preserved : goal.loop-list-preserved
loop-list-preserved c =
    let read : frame_word_at c.args.words.now (map frame_entry c.loop-list.list.items) c.loop-list.at
    ≡ Ok (frame_entry c.in_ok-word.word, c.in_ok-word.more, c.in_ok-word.end) = cc c.in_ok-word.ensures.exact in
    record {
      within = c.in_ok-word.ensures.within.1;
      so_far = list_more (frame_word_at c.args.words.now) frame_entry c.args.words.now c.args.start c.loop-list.at c.in_ok-word.end
          c.loop-list.list.items _ c.in_ok-word.word c.in_ok-word.more c.loop-list.invariant.so_far read
          c.if-not-more.false c.in_ok-word.ensures.within.0 c.in_ok-word.ensures.within.1 c.in_ok-push.ensures.items;
      fits = fits_more EntryFits frame_entry c.loop-list.list.items _ c.in_ok-word.word c.loop-list.invariant.fits c.in_ok-word.ensures.indices c.in_ok-push.ensures.items;
    }

-- Words, for any layout of cells in classes: the terms of the theorems.
use mathlib.Core.Path.{sym, ◌∙◌}
use Rattle.levels.specs.theorems.Words.{WordsNumbered, OneWord, OneLevels}
use Rattle.levels.proofs.theory.DigitCells.{digits_count}
use Rattle.levels.proofs.theory.WordCells.{slot_below, word_below, word_one, word_some, word_class, words_cells}
use Rattle.levels.proofs.theory.WordReach.{comes_corrected, fit_reach, reach_fit, from_corrected, from_reach, reach_from}

-- Theorem. The cells of words are numbered by word and place: six for each word, of which five hold a digit.
pub words_numbered : WordsNumbered
words_numbered =
    record {
      below = λ L m b i l e. (word_below L m i (b i l) e, slot_below L i);
      one = word_one;
      some = word_some;
      class = word_class;
      cells = words_cells;
      digits = digits_count;
    }

-- Theorem. A word comes from at most one lawful word, and from one of levels exactly where the change of each cell can be taken
-- back.
pub one_word : OneWord
one_word =
    record {
      one = λ L f g h w g-comes g-lawful h-comes h-lawful i l p.
          sym (comes_corrected L f g w g-comes g-lawful i l p) ∙ comes_corrected L f h w h-comes h-lawful i l p;
      reach = fit_reach;
      fit = reach_fit;
    }

-- Theorem. A field comes from at most one lawful field, the corrected one, and from one exactly where the test passes.
pub one_levels : OneLevels
one_levels =
    record {
      one = λ L f g h p q i l. sym (from_corrected L f g p i l) ∙ from_corrected L f h q i l;
      corrected = from_corrected;
      passes = from_reach;
      reach = reach_from;
    }

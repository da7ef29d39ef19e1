-- Which values fit where.

-- the second value fits wherever the first one does
abbrev pub FitsWhere : {Tag X : Type 0} → (Tag → X → Type 0) → X → X → Type 0
FitsWhere {Tag} fits x more = (tag : Tag) → fits tag x → fits tag more

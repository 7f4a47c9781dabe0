mod BeforeLast
mod Steps
mod AsTheRules
mod ToCome
mod FurtherLemmas
mod FreedLemmas

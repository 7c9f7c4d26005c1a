mod Numbers
mod PlainWords
mod Scales
mod Tellings
mod Verbs

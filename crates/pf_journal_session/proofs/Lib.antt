mod Untaken
